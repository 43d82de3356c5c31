pub mod Asked
pub mod Editions
pub mod Own
