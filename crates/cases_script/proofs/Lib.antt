pub mod LineWordsLaws
pub mod NameLineLaws
pub mod GivenBytesLaws
