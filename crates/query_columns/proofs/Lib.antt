pub mod ColumnRowLaws
pub mod Theorems
