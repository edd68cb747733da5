pub mod OccurrencesLaws
pub mod PairLaws
pub mod TargetStep
pub mod TargetLaws
