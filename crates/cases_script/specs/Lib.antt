pub mod LineWords
pub mod NameLine
pub mod GivenBytes
