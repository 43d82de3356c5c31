pub mod Table
pub mod Letters
pub mod Order
pub mod Reading
pub mod Prefixes
pub mod Answered
