pub mod Common
pub mod Input
pub mod Kept
pub mod MemSink
pub mod MemSource
pub mod Streams
