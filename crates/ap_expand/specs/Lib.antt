pub mod Uses
pub mod Lines
pub mod Search
pub mod Walks
pub mod Places
