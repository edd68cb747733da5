-- Rows selected by a predicate on their bytes, and automata that read a row byte by byte.
pub mod SelectedRows
pub mod SelectedRowNumbers
pub mod SelectedRowLaws
pub mod RowAutomaton
pub mod RowAutomatonLaws
pub mod RowScans
