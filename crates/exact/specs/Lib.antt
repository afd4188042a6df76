pub mod Float
pub mod Value
pub mod Number
pub mod Rounded
pub mod Compared
pub mod Pattern
pub mod Products
pub mod Accuracy
