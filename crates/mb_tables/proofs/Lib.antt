mod Common
pub mod ListLemmas
pub mod CellLemmas
pub mod TableLemmas
pub mod TileLemmas
pub mod RowLemmas
