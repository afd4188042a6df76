pub mod ColumnLaws
pub mod ColumnValues
pub mod FixLaws
pub mod FixValues
pub mod StepLaws
pub mod BitLaws
pub mod ChangeLaws
