pub mod Query
pub mod Reader
pub mod Salvage
pub mod Demands
