-- What the proofs of more than one function use, and the laws.
pub mod RoundSound
pub mod RowLaws
pub mod SolvingLaws
pub mod StepLaws
pub mod RoundValues
pub mod ResidualsFinite
