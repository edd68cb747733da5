pub mod Holders
pub mod GuideList
pub mod EntryWordsLaws
pub mod Theorems
