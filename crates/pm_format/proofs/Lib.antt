mod Common
pub mod ColumnLemmas
pub mod DecodingLemmas
pub mod DirectoryAgain
pub mod DirectoryPieces
pub mod HeaderLemmas
pub mod Ranges
pub mod ArchiveOpens
pub mod EntryLemmas
pub mod FaultLemmas
pub mod SearchLemmas
pub mod LookUpLemmas
pub mod OptionLemmas
pub mod SpellingLemmas
pub mod VarintWritingLemmas
pub mod VarintReadingLemmas
pub mod VarintLemmas
mod HeaderRefusalLemmas
mod LabelLemmas
