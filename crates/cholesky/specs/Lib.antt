pub mod Factor
pub mod Answer
pub mod Steps
pub mod Sound
