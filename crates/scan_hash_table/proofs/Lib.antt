pub mod ChainHeadLaws
pub mod ItemLaws
pub mod EntryWrites
pub mod Chains
pub mod EntryLaws
pub mod LookupLaws
