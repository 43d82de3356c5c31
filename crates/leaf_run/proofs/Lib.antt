pub mod Taken
pub mod Going
