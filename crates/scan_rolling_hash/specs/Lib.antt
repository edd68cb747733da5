pub mod Fingerprints
pub mod Windows
