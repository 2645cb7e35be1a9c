-- Words about numbering on its way. No public clause cites them.
pub mod Passing
