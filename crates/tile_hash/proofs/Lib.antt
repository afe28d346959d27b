mod Common
pub mod ByteLemmas
pub mod HashStreamLemmas
pub mod StepLemmas
pub mod TakenLemmas
pub mod UpperCaseLemmas
pub mod Xxh3StreamLemmas
pub mod Xxh64StreamLemmas
