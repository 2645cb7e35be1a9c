pub mod Parts
pub mod Clean
pub mod Found
pub mod Accepted
pub mod Again
