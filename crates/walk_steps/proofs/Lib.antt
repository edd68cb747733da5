pub mod StepLaws
pub mod NextLaws
pub mod CycleClaims
