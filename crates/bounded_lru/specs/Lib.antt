pub mod Common
pub mod Bounded
