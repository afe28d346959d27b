mod Common
pub mod ClusteringLemmas
pub mod MetadataLemmas
pub mod CheckingLemmas
