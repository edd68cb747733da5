pub mod ItemLengths
pub mod LengthsOfLaws
pub mod EnterLaws
pub mod PassLaws
pub mod AfterPass
