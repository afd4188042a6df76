pub mod Directory
pub mod Lent
pub mod Faults
pub mod Rearrange
pub mod Series
pub mod Steps
pub mod Read
pub mod Table
