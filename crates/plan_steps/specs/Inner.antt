-- Words about a body on its way. No public clause cites them.
pub mod Laid
pub mod Machines
