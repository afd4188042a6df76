-- What the proofs of more than one function use, and the laws.
pub mod QueriesLaws
pub mod CallLaws
pub mod QueriesValues
