pub mod Turning
pub mod Rest
pub mod Complete
