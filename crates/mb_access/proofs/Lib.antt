mod Common
pub mod DescribedLemmas
pub mod FindingLemmas
pub mod HashedLemmas
pub mod StreamRows
pub mod StreamPages
pub mod StreamLoop
pub mod StreamRunLemmas
mod Keeping
mod Making
mod RefusedLemmas
