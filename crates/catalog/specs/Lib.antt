pub mod Asked
pub mod Answers
pub mod Reader
pub mod Types
pub mod Demands
