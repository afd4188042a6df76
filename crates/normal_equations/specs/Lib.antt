pub mod Nine
pub mod Weight
pub mod Equations
pub mod Steps
