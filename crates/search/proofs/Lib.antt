pub mod Narrowing
pub mod Stored
pub mod Filled
pub mod Searched
