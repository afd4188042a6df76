pub mod Valid
pub mod Front
pub mod Fix
pub mod Steps
pub mod Before
