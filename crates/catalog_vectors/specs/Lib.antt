pub mod Records
pub mod Images
pub mod Table
