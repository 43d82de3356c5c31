pub mod Blocks
pub mod Work
pub mod Demands
