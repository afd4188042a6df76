-- What the proofs of more than one function use, and the laws.
pub mod Zeros
pub mod NineLaws
pub mod WeightLaws
pub mod Sums
pub mod ColumnLaws
pub mod UnusedLaws
pub mod AddedLaws
pub mod FormedLaws
pub mod SomeSums
pub mod Places
pub mod AllPlaces
pub mod NormalValues
