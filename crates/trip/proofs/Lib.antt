-- What the proofs of more than one function use, and the theorems.
pub mod MeasureLaws
pub mod WayLaws
pub mod BoundsLaws
pub mod TripLaws
pub mod ReportLaws
pub mod TotalLaws
pub mod HeldLaws
pub mod TripValues
