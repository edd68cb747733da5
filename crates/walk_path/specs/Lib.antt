pub mod Above
pub mod Walk
