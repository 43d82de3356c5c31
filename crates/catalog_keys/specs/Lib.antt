pub mod Weights
pub mod Key
