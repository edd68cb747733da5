-- Rows that start with a prefix, and the automaton that recognizes them.
pub mod PrefixRowNumbers
pub mod PrefixRowLaws
pub mod PrefixStates
pub mod PrefixScanned
pub mod PrefixExamples
