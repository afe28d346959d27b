pub mod Common
pub mod Lines
pub mod Number
pub mod Parting
