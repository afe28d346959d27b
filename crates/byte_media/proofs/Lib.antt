mod Common
pub mod KeptLemmas
pub mod WriteLemmas
