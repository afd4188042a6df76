pub mod Sorted
pub mod Steps
pub mod Centre
