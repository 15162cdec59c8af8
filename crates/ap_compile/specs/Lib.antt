pub mod Labels
pub mod Drafts
pub mod LastUses
pub mod Gatherings
pub mod Partners
pub mod Empties
pub mod Forming
pub mod Compiling
