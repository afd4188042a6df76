-- What the proofs of more than one function use, and the theorems.
pub mod Squares
pub mod Reading
pub mod RootLaws
pub mod Parts
pub mod Normal
pub mod NormalRoot
pub mod Special
pub mod Theorems
pub mod RootValues
pub mod RoundExact
