pub mod Plan
pub mod Target
