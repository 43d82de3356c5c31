pub mod Marks
pub mod Links
