pub mod Points
pub mod Settled
pub mod Neighbours
pub mod Kept
pub mod Unmapped
pub mod Decisions
pub mod Orders
