mod Common
pub mod Told
pub mod PlaceLemmas
pub mod ContentLemmas
pub mod SeekLemmas
