-- What the proofs of more than one function use, and the laws.
pub mod RulesLaws
pub mod RoundsLaws
pub mod RoundsSound
