pub mod Split
pub mod Field
pub mod Line
pub mod Text
pub mod Print
pub mod Answer
pub mod Steps
