pub mod Counts
pub mod Limits
pub mod Pieces
pub mod Places
