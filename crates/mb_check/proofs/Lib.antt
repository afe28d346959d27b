mod Common
pub mod InfoLemmas
pub mod SizesLemmas
pub mod UpdatedLemmas
