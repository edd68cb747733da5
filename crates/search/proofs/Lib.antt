pub mod Modulo
pub mod FingerprintLaws
pub mod ScanLaws
pub mod Usable
pub mod AnswerCases
pub mod Theorems
