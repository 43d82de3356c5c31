pub mod Turns
pub mod Numbers
pub mod Surely
pub mod Rising
pub mod Fours
