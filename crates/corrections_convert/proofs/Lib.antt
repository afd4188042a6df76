-- What the proofs of more than one function use, and the theorems.
pub mod FileLaws
pub mod ListLaws
pub mod AnswerLaws
pub mod NumberLaws
