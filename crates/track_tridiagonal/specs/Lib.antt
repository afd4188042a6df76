pub mod Tridiagonal
pub mod Rows
pub mod Accuracy
pub mod Steps
