pub mod ByteSliceLaws
pub mod SameLaws
