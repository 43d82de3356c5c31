pub mod Visit
pub mod Outcome
