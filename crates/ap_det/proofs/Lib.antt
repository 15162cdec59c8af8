pub mod Numberings
pub mod Sorting
pub mod Grouping
pub mod Constructing
pub mod DetLaws
