-- What the proofs of more than one function use, and the theorems.
pub mod Pivot
pub mod Rooted
pub mod FactorLaws
pub mod FactorColumns
pub mod FactorElements
pub mod FactorFinite
pub mod FactorUsed
pub mod ColumnLaws
pub mod SolveUsed
pub mod Answers
pub mod SoundSystem
pub mod LowerLaws
