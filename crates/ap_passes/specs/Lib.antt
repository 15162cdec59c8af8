pub mod Marks
pub mod Splitting
pub mod Sought
pub mod Passes
pub mod Writing
pub mod Laws
