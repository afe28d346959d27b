mod Common
mod NumberLemmas
pub mod PartingLemmas
