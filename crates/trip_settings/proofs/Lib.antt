-- What the proofs of more than one function use, and the theorems.
pub mod DriveLaws
pub mod EventLaws
pub mod LentLaws
pub mod SixteenLaws
pub mod CallLaws
