pub mod Node
pub mod Begun
