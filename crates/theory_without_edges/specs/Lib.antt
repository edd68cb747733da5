pub mod WithoutEdges
pub mod LinksMade
pub mod TreesAgree
pub mod TreesExact
pub mod PathsAgree
pub mod TreeInLayout
pub mod PairsInLayout
pub mod Layout1Examples
