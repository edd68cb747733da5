pub mod LevelAsked
