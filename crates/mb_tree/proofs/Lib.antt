mod Common
pub mod MemTreeLemmas
pub mod RefusalLemmas
pub mod UnpackLemmas
pub mod PathLoops
pub mod PathRefusals
pub mod SplitLemmas
pub mod FileLemmas
pub mod CountLemmas
pub mod PackLemmas
pub mod BaseLemmas
pub mod AnswerLemmas
pub mod WrittenLemmas
pub mod PlainLemmas
pub mod PlaceLemmas
pub mod RoundTripLemmas
pub mod AloneLemmas
pub mod LawLemmas
