pub mod MarkingRule
pub mod TargetSearch
