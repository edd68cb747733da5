pub mod CountsHeader
pub mod PrefixLaws
pub mod BlockCountsLaws
pub mod LevelCountsLaws
