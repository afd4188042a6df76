pub mod Earth
pub mod Frames
pub mod Lent
