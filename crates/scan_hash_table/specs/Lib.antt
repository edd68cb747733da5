pub mod ChainHeads
pub mod Entries
pub mod ItemsEntered
pub mod LookedUp
