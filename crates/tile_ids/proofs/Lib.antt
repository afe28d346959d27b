mod Common
pub mod Bijection
pub mod ChildLemmas
pub mod Curve
pub mod HalvingLemmas
pub mod Indexes
pub mod LevelLemmas
pub mod NeighbourLemmas
pub mod PyramidLemmas
pub mod SixteenthLemmas
pub mod SubtreeLemmas
pub mod WalkLemmas
pub mod ZoomLemmas
