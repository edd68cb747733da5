pub mod WithoutEdgesAnswers
pub mod WithoutEdgesState
