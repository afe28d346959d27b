mod Common
mod GivingUpLemmas
pub mod HeldLemmas
mod PuttingLemmas
mod WeightLemmas
