pub mod WordLists
pub mod GuideWrittenLaws
pub mod Theorems
