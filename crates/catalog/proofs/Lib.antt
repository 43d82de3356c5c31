pub mod Entries
pub mod Asked
pub mod Compared
pub mod Types
pub mod Demands
pub mod Laws
pub mod Names
pub mod Own
