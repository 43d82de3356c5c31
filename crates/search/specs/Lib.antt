pub mod Descent
pub mod Rows
