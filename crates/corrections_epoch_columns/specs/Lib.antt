pub mod Epoch
pub mod Short
pub mod Columns
pub mod Steps
