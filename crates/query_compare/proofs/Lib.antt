pub mod SideBySideLaws
pub mod OrderGivenLaws
pub mod FirstLaws
pub mod Theorems
