pub mod Written
pub mod Demands
