pub mod CheckedSettings
pub mod Header
pub mod HeaderFields
pub mod Record
pub mod SettingsLevel
pub mod Shapes
