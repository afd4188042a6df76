pub mod CorrectionLaws
