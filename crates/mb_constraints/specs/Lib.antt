pub mod Common
pub mod Described
pub mod Algorithm
pub mod TileRows
pub mod References
pub mod Hashes
pub mod DiffHashes
