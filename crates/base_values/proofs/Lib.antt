mod Common
pub mod ByHand
