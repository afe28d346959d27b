mod Common
pub mod BulkLemmas
pub mod DraftLemmas
pub mod ReaderLemmas
pub mod RowLemmas
pub mod ScriptLemmas
pub mod SettingLemmas
pub mod TextLemmas
