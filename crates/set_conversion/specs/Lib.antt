pub mod Common
pub mod Words
pub mod Outcome
pub mod SaidOptions
pub mod Part
pub mod PartWords
