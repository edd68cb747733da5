pub mod LeafEnds
pub mod Segments
