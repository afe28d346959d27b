mod Common
pub mod BareLemmas
pub mod OthersLemmas
pub mod ReadBackLemmas
pub mod ReadingLemmas
pub mod InsertLemmas
pub mod JsonLemmas
pub mod NameEditLemmas
pub mod UpdateLemmas
pub mod ZoomLemmas
pub mod NumberLemmas
