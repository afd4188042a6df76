-- The laws of the calls.
pub mod ContractLaws
pub mod ColumnLaws
pub mod FormLaws
pub mod StepLaws
pub mod NarrowLaws
pub mod PastLaws
pub mod NumberLaws
pub mod QueryNumberLaws
pub mod DecidedLaws
pub mod RunLaws
pub mod DropLaws
pub mod BuildLaws
pub mod MarkLaws
pub mod SameLaws
pub mod WidenLaws
pub mod AcceptedLaws
