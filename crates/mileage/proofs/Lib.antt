-- What the proofs of more than one function use, and the theorems.
pub mod BoundsLaws
pub mod CallLaws
pub mod RatedLaws
pub mod ListLaws
pub mod MileageLaws
pub mod DistanceLaws
