pub mod Branches
pub mod Directions
pub mod Laws
pub mod Lent
pub mod Places
pub mod Reached
pub mod Reads
pub mod Soundness
