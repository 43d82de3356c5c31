pub mod Ranks
pub mod Starts
