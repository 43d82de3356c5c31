pub mod Steps
pub mod Ends
pub mod Agree
pub mod Finish
