pub mod Pieces
pub mod Deformatted
pub mod Standing
pub mod Reformatted
pub mod Laws
pub mod Giving
pub mod BareTexts
