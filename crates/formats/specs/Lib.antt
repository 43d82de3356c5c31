pub mod Format
pub mod Asked
