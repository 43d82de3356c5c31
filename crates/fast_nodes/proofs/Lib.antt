pub mod Ranks
pub mod Nodes
