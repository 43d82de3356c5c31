pub mod State
pub mod Formed
pub mod Room
pub mod Ready
