pub mod FillLaws
pub mod PatternStepLaws
pub mod PatternSeekLaws
pub mod ReadMatchingLaws
pub mod RoomLaws
pub mod PlacesAnswerLaws
pub mod Theorems
