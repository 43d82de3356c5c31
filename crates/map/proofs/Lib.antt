pub mod Bits
pub mod SameBytes
pub mod Searched
pub mod MapTests
