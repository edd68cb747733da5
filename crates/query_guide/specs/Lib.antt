pub mod Guides
pub mod GuideExamples
