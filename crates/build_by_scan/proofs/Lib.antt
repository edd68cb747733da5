pub mod TableRoom
pub mod ScannedFillLaws
pub mod WindowsCounted
pub mod TableGivesMarking
pub mod ScannedLevelsLaws
pub mod ScannedOutcomes
