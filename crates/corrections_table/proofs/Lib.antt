-- What the proofs of more than one function use, and the theorems.
pub mod Lex
pub mod Places
pub mod UnitLaws
pub mod SmallLaws
pub mod TableLaws
pub mod ColumnLaws
pub mod SeriesLaws
pub mod BuiltLaws
pub mod SpotLaws
pub mod InsertLaws
pub mod PlaceLaws
pub mod WidenLaws
pub mod Values
