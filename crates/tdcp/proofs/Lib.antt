-- What the proofs of more than one function use, and the laws.
pub mod FrontLaws
pub mod SightLaws
pub mod FrontValues
pub mod DisplacementLaws
pub mod DisplacementSound
pub mod DisplacementCall
pub mod CountedLaws
pub mod IntervalLaws
pub mod FilterLaws
pub mod CityLaws
pub mod RatedLaws
pub mod ElevationLaws
