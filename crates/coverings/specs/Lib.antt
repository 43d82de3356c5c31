pub mod Answers
pub mod Covered
