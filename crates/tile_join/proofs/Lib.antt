mod Common
pub mod OverLemmas
pub mod SourceLemmas
pub mod FindLemmas
pub mod GatherLemmas
pub mod PieceLemmas
pub mod FinishLemmas
pub mod CountLemmas
pub mod PartLemmas
pub mod HeaderLemmas
pub mod OneLemmas
pub mod PlanLemmas
pub mod DoneLemmas
pub mod MapLemmas
pub mod JoinedLemmas
pub mod PutLemmas
pub mod WholeLemmas
