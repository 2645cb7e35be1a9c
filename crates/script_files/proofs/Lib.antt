pub mod Once
pub mod Stops
