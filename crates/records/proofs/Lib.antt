-- What the proofs of more than one function use, and the laws.
pub mod RecordLaws
pub mod CarrierLaws
pub mod EpochLaws
pub mod PutLaws
pub mod PartnerLaws
pub mod PairLaws
pub mod KeepLaws
pub mod ScreenLaws
