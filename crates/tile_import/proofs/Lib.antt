mod Common
pub mod PlacingLemmas
pub mod EntryLemmas
pub mod TilesLemmas
pub mod RefusalLemmas
pub mod StoringLemmas
pub mod AnswerLemmas
