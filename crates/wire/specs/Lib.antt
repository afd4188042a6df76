pub mod Number
pub mod Record
pub mod Columns
pub mod Lent
pub mod Steps
