pub mod Refusal
pub mod Rules
pub mod Real
pub mod Vec3
pub mod Sight
pub mod Order
pub mod Whole
