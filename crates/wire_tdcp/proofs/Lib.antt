pub mod DisplacementLaws
pub mod ColumnLaws
pub mod Values
