pub mod Common
pub mod FirstBreak
pub mod Tiles
pub mod Checking
pub mod Walking
pub mod OutcomeText
pub mod TopCall
