pub mod BuildAnswer
