pub mod Causes
pub mod Disk
pub mod Held
pub mod Numbered
pub mod StoreCauses
pub mod Told
