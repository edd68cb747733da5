pub mod RowsAfterLaws
pub mod AllowedAnswerLaws
pub mod NextRowTheorems
