-- What the proofs of more than one function use, and the theorems.
pub mod DirectoryLaws
pub mod NarrowLaws
pub mod OrderLaws
pub mod FaultLaws
pub mod ColumnLaws
pub mod SeriesLaws
pub mod BlockLaws
pub mod SoundLaws
pub mod EntryLaws
pub mod PatternLaws
