pub mod Fresh
pub mod Links
pub mod Room
pub mod Lands
