pub mod Tags
pub mod Plain
pub mod Splits
pub mod Places
pub mod Works
pub mod Laws
