mod Common
pub mod CheckingLemmas
pub mod MeetingLemmas
pub mod ReadsLemmas
pub mod ReportLemmas
pub mod SoundLemmas
pub mod ToldLemmas
pub mod WalkingLemmas
