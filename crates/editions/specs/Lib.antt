pub mod Asked
pub mod Editions
