pub mod Sizes
pub mod Lawfully
