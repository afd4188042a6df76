pub mod Track
pub mod Answer
pub mod Steps
pub mod Trials
