pub mod Query
pub mod Past
pub mod Steps
pub mod Former
