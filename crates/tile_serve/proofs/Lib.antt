mod Common
pub mod CompletingLemmas
pub mod CourseLemmas
pub mod FaultLemmas
pub mod HoldingLemmas
pub mod LinesLemmas
pub mod OpenedLemmas
pub mod RefusedLemmas
pub mod ReplyingLemmas
pub mod RunLemmas
pub mod ServingLemmas
