-- What the proofs of more than one function use, and the theorems.
pub mod TimeLaws
pub mod ForgetLaws
pub mod HistoryLaws
pub mod BlockLaws
pub mod LayoutLaws
pub mod MoveLaws
pub mod TrimLaws
pub mod CallLaws
pub mod FormLaws
pub mod Values
pub mod PatternLaws
