pub mod Commands
pub mod Listing
pub mod Standing
pub mod Turns
