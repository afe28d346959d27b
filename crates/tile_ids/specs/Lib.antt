pub mod Coord
pub mod Hilbert
pub mod Interval
pub mod Orientation
