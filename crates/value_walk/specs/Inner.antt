-- Words about the inner state of the walk. No public clause cites them.
pub mod Codes
pub mod Slots
pub mod Ready
pub mod Walks
