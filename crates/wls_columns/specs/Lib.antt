pub mod Columns
pub mod Fix
pub mod Step
pub mod Bits
pub mod Steps
