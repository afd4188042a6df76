pub mod Numbers
pub mod Track
pub mod Version
pub mod Times
