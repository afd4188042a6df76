pub mod Samples
pub mod Steps
pub mod Add
