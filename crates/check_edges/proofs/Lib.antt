pub mod TruthLaws
pub mod EightLaws
