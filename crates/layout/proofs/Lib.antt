mod HeaderQuestions
pub mod Theorems
mod HeaderLaws
mod HeaderCheck
mod RecordLaws
mod SettingsLaws
mod PowerLaws
pub mod TestLoops
pub mod AnswerTests
pub mod ShapeLaws
