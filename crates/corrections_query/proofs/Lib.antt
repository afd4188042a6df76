-- What the proofs of more than one function use, and the theorems.
pub mod FoundLaws
pub mod QueryLaws
pub mod HalvingLaws
pub mod PlaceLaws
pub mod BlockLaws
pub mod FormerLaws
pub mod PastLaws
pub mod FiniteLaws
pub mod AnswerLaws
pub mod FormLaws
pub mod Values
pub mod WidenedLaws
