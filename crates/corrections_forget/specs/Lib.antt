pub mod Forget
pub mod History
pub mod Steps
