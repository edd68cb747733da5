pub mod PartsLaws
pub mod DecimalLaws
pub mod HexadecimalLaws
