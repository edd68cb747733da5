pub mod AllowedRows
pub mod RowsAfter
