pub mod Common
pub mod Tables
pub mod Decoded
pub mod DigitLanes
pub mod ValueLanes
