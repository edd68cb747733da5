pub mod Guided
pub mod GuidedWalk
pub mod GuidedExamples
