pub mod TotalCorrectness
pub mod Preconditions
