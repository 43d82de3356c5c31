pub mod Build
pub mod Bench
