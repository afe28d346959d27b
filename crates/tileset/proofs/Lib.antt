mod Common
pub mod ConvertingLemmas
pub mod AnswerLemmas
pub mod DumpLemmas
pub mod HexDumpLemmas
pub mod PrintedLemmas
pub mod ReportLemmas
pub mod RunLemmas
pub mod StandsLemmas
