pub mod ColumnRows
pub mod ColumnRowExamples
pub mod RowThere
