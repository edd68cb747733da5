pub mod ByteSlices
