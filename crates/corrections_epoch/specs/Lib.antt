pub mod Record
pub mod Raw
pub mod Sample
pub mod AddEpoch
pub mod Build
pub mod Steps
