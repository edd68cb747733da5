pub mod EdgesMatch
pub mod Eights
