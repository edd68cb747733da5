pub mod WithoutEdgesLaws
pub mod Theorems
