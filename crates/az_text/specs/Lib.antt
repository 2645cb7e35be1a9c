pub mod Tokens
pub mod Reading
pub mod Fronts
pub mod Pieces
pub mod Lumps
