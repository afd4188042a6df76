pub mod Input
pub mod Equations
pub mod Pass
pub mod Steps
