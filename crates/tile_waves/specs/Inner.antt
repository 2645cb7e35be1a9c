-- Words about the inner state. No public clause cites them.
pub mod Columns
pub mod Items
pub mod Cuts
pub mod Listed
pub mod Nested
