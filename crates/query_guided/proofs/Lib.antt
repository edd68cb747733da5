pub mod GuidedFindLaws
pub mod Theorems
