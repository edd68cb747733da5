pub mod Head
pub mod LeafBytesWritten
pub mod Trees
