pub mod NewlineLaws
pub mod RowBoundsLaws
pub mod RowAnswerLaws
pub mod RowLengthsLaws
pub mod Theorems
