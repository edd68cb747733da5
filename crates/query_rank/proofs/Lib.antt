pub mod SumsLaws
pub mod CountByHeaderLaws
mod UncountedLaws
