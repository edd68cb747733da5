pub mod Sums
pub mod Counts
