mod Common
pub mod ExtentLemmas
pub mod FoldLemmas
pub mod StepLemmas
pub mod DegreesLemmas
pub mod NameLemmas
pub mod WholeLemmas
pub mod SetNameLemmas
pub mod FactLemmas
