pub mod LevelFillLaws
pub mod AllLevelsLaws
pub mod BuildOutcomes
