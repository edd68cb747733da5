pub mod Info
pub mod InfoExamples
