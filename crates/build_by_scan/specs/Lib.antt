pub mod ScanAnswers
pub mod ItemTable
pub mod ScanExamples
