pub mod Steps
pub mod Spans
