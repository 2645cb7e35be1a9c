-- Words about what stands inside. No public clause cites them.
pub mod Forms
pub mod Reading
pub mod Rows
pub mod Filling
pub mod Answers
