pub mod Measure
pub mod Trip
pub mod Words
pub mod Steps
