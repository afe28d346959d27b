mod Common
mod AskingLemmas
pub mod CommitLemmas
mod KeepingLemmas
mod PassingLemmas
mod ReadingLemmas
mod ReadyLemmas
mod RestingLemmas
mod RisingLemmas
mod SizingLemmas
mod StepLemmas
mod WritingLemmas
