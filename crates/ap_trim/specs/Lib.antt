pub mod Trimming
pub mod Reading
pub mod Watching
pub mod Numbers
pub mod Products
pub mod Stepping
pub mod Sections
