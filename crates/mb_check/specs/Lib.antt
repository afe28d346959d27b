pub mod Common
pub mod AggregateHash
pub mod PatchInfo
pub mod Updated
pub mod Validation
pub mod Totals
pub mod Sizes
