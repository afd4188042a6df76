pub mod City
pub mod Records
pub mod Line
