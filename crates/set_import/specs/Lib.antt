pub mod Common
pub mod Filling
pub mod NewSet
pub mod Said
pub mod Status
pub mod Words
pub mod Streaming
pub mod Batches
