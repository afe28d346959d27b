mod Common
pub mod ClearedLemmas
pub mod TouchLemmas
pub mod TileStateLemmas
pub mod NameStateLemmas
pub mod LoadedLemmas
pub mod MadeLemmas
pub mod PutLemmas
pub mod AnswerLemmas
pub mod EntryLemmas
pub mod WantedLemmas
pub mod CopiedLemmas
pub mod HashLemmas
pub mod PatchedSourceLemmas
pub mod PatchAnswerLemmas
