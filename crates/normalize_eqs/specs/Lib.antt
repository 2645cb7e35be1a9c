pub mod Laws
pub mod Normal
pub mod Outlines
pub mod Pieces
