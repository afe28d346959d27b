mod Common
pub mod KeptLemmas
pub mod MemSourceLemmas
pub mod StreamsLemmas
