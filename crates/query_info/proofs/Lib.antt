pub mod InfoLaws
pub mod Theorems
