-- What the proofs of more than one function use, and the theorems.
pub mod RefusalLaws
pub mod RulesLaws
pub mod RealLaws
pub mod RealValues
pub mod OrderMagnitude
pub mod OrderLaws
pub mod OrderCases
pub mod OrderValues
pub mod Zeros
pub mod SightLaws
pub mod WholeLaws
pub mod Growing
