-- The laws of signals.
pub mod SignalLaws
