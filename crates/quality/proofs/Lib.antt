-- What the proofs of more than one function use, and the laws.
pub mod QualityLaws
pub mod QualityValues
