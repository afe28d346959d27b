mod Common
pub mod HeldLemmas
pub mod PlainLemmas
