mod CheckLaws
pub mod Theorems
