-- What the proofs of more than one function use, and the laws.
pub mod FrontLaws
pub mod SightLaws
pub mod RowLaws
pub mod FixLaws
pub mod FixSound
pub mod QualityLaws
pub mod FixCall
pub mod CountedLaws
pub mod BeforeLaws
pub mod QualityBefore
pub mod StopLaws
pub mod ChangeLaws
