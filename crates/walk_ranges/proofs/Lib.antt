pub mod LeafEndLaws
pub mod NextSegmentLaws
