pub mod Bodies
pub mod Values
pub mod Rests
pub mod Lending
pub mod Pairs
