pub mod Verification
pub mod Commands
