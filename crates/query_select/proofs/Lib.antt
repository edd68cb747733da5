pub mod SeekLaws
pub mod LandLaws
pub mod FindByHeaderLaws
pub mod FoundLaws
