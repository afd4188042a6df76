pub mod NeverLaws
pub mod CityLaws
pub mod RecordLaws
pub mod LineLaws
