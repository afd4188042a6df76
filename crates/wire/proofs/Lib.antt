pub mod NumberLaws
pub mod RecordLaws
pub mod ColumnLaws
pub mod LentLaws
pub mod BackLaws
pub mod Values
