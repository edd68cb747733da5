pub mod RecordPlaces
pub mod WritesOnlyTree
pub mod State
pub mod RecordWords
pub mod WrittenStarts
