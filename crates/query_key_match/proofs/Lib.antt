pub mod MatchAnswerLaws
pub mod Theorems
pub mod MarkValues
