pub mod Drive
pub mod Events
pub mod Lent
pub mod Calls
