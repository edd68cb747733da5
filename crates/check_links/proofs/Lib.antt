mod BlockLinksLaws
mod TreeLaws
mod LevelReadLaws
