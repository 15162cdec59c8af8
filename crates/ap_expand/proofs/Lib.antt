pub mod Todo
pub mod Traces
pub mod Walking
pub mod Paradigms
pub mod Entering
pub mod Steps
pub mod Meaning
pub mod Using
