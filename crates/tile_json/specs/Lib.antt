pub mod Common
pub mod Errors
pub mod JsonCode
pub mod JsonReading
pub mod LayerReading
pub mod Members
pub mod Places
pub mod Reading
