pub mod Pairs
pub mod Choice
pub mod Sentences
pub mod Numbering
pub mod Choosing
pub mod Chances
pub mod Works
pub mod Laws
