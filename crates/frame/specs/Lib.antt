pub mod Fields
pub mod Form
pub mod Kinds
pub mod Inside
