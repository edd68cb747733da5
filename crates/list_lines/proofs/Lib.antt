pub mod WrittenLaws
mod PutLaws
mod LineLaws
mod ListAnswerLaws
pub mod Theorems
