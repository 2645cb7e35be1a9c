-- Words about the inner state of a scanner. No public clause cites them.
pub mod Levels
pub mod Walks
pub mod Merges
pub mod Nests
pub mod Scans
pub mod Indices
pub mod Answered
pub mod Parts
pub mod Located
pub mod Joined
