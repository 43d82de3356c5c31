pub mod Bound
pub mod Whole
