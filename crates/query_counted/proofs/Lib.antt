pub mod NamedLaws
pub mod TotalLaws
