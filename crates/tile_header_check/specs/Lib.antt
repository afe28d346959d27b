pub mod Common
pub mod Tiles
pub mod Clustering
pub mod Metadata
pub mod Checking
pub mod FaultText
