-- What the proofs of more than one function use, and the theorems.
pub mod EpochLaws
