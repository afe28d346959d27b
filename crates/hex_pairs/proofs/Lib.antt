mod Common
pub mod TableLemmas
mod LaneLemmas
mod DigitLemmas
mod ValueLemmas
mod ReadLemmas
