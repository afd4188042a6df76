pub mod Displacement
pub mod Rated
pub mod Steps
