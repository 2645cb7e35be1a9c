-- Words about the count on its way. No public clause cites them.
pub mod Counting
