pub mod Sizes
pub mod Walked
