pub mod Rated
pub mod Mileage
pub mod Words
pub mod Steps
