mod Common
pub mod AlgorithmLemmas
pub mod TileRowLemmas
pub mod TilesKept
pub mod ContentTests
pub mod ApartPlaces
