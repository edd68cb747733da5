pub mod Layout1Sizes
pub mod Layout1Bytes
pub mod Layout1Reads
pub mod Layout1Built
pub mod Layout1Same
pub mod Layout1Accepted
