pub mod Determinism
pub mod Numbered
pub mod Exits
pub mod Subsets
