pub mod WindowFingerprintLaws
pub mod WindowLaws
