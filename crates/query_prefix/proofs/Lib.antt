pub mod PrefixSearchLaws
pub mod Theorems
