pub mod LevelTable
pub mod ListExamples
pub mod ListedLines
