pub mod Ends
pub mod Looking
pub mod Matches
