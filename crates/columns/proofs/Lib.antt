pub mod ColumnsWritten
pub mod Theorems
