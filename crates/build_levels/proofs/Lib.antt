pub mod LeafLaws
pub mod HeaderWrittenLaws
pub mod LevelZeroLaws
pub mod LevelStepLaws
pub mod WrittenTree
