pub mod Promise
pub mod Places
pub mod Outputs
