pub mod Branches
pub mod Finiteness
pub mod Reached
pub mod Soundness
pub mod Walks
