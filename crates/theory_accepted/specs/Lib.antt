pub mod AcceptedTrees
pub mod QuestionNumbers
