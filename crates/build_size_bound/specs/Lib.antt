pub mod SizeBound
pub mod BlocksInOrder
pub mod SizeBoundHolds
