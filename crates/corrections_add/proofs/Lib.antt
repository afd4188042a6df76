-- What the proofs of more than one function use, and the theorems.
pub mod SortLaws
pub mod FillLaws
pub mod StayLaws
pub mod MixLaws
pub mod LastLaws
pub mod CursorLaws
pub mod MergeLaws
pub mod OwnLaws
pub mod CountLaws
pub mod WriteLaws
pub mod PlaceLaws
pub mod AddLaws
pub mod SameLaws
