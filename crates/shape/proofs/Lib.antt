pub mod Shaped
pub mod Shape
pub mod Levels
pub mod Tree
pub mod Fewest
pub mod Reach
