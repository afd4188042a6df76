-- The laws.
pub mod ClocksLaws
