pub mod Valid
pub mod Front
pub mod Displacement
pub mod Rated
pub mod City
pub mod Steps
