mod Common
pub mod Ordered
pub mod WithRows
pub mod Placed
pub mod Kept
pub mod ChangeLemmas
pub mod IndexLemmas
pub mod StoredLemmas
pub mod EditLemmas
pub mod KeptCommit
pub mod DescribedLemmas
pub mod Committed
pub mod PushLemmas
pub mod RowsPut
pub mod GatheredLemmas
pub mod GatheringLemmas
pub mod HeldLemmas
mod BookmarkLemmas
mod ReadingLemmas
pub mod FaultLemmas
