pub mod Occurrences
pub mod FingerValues
