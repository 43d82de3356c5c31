pub mod LeafNodes
pub mod IndexNodes
pub mod Levels
