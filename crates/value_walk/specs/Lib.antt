pub mod Boxes
pub mod Chains
pub mod Inner
pub mod Meanings
pub mod Needs
pub mod Points
pub mod Refusals
