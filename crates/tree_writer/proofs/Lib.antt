pub mod Planned
pub mod Upper
pub mod Assembled
