pub mod ReadAnswers
pub mod ReadByRuns
