pub mod AboveLaws
pub mod WalkLaws
pub mod AlongLaws
pub mod EndLaws
