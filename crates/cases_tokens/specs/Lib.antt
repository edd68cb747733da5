pub mod Parts
pub mod Decimals
pub mod Hexadecimals
