pub mod PackedLaws
pub mod GatherLaws
pub mod WholeLaws
