pub mod Reader
pub mod Demands
pub mod Many
pub mod Floor
