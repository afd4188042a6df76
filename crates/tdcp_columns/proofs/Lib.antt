pub mod RoundLaws
pub mod FitLaws
pub mod AnswerLaws
pub mod AnswerValues
pub mod RatedLaws
pub mod CallLaws
