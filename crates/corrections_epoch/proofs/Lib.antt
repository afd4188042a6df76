-- What the proofs of more than one function use, and the theorems.
pub mod RawLaws
pub mod SampleLaws
pub mod TestLaws
pub mod EpochLaws
pub mod SampleValues
pub mod WidenedLaws
pub mod SameLaws
