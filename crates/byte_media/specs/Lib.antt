pub mod Common
pub mod Kept
pub mod Media
pub mod MemMedium
