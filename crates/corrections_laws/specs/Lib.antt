pub mod Typed
pub mod Calls
pub mod Flat
pub mod Lent
pub mod Numbers
