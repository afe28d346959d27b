pub mod Common
pub mod Places
pub mod Pieces
pub mod Span
pub mod Contents
pub mod Sought
