pub mod CountsAsked
pub mod PrefixTargets
