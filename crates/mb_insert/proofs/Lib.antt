mod Common
pub mod CoordLemmas
pub mod ChosenLemmas
pub mod CountLemmas
pub mod PlacedLemmas
pub mod InsertedLemmas
