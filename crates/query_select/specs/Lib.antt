pub mod Seeks
pub mod Found
pub mod SoughtPlaces
