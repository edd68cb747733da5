pub mod WordTheorems
pub mod EdgeTheorems
