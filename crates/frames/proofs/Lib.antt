-- What the proofs of more than one function use, and the theorems.
pub mod FramesLaws
pub mod StillLaws
pub mod FramesValues
