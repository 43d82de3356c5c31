pub mod Order
pub mod Left
pub mod Outcome
pub mod Says
pub mod Images
