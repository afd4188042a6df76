pub mod Table
pub mod Add
pub mod Lent
pub mod Steps
pub mod Build
pub mod Widen
