pub mod Round
pub mod Step
pub mod Steps
pub mod Sigma
