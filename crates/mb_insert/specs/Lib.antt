pub mod Common
pub mod Mode
pub mod Batch
pub mod Insertion
pub mod Inserted
pub mod BatchExamples
