pub mod CountTheorems
pub mod RowTheorems
