pub mod ClosedForms
pub mod Differences
pub mod DaysLaws
pub mod LicenceLaws
pub mod Theorems
