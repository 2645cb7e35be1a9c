pub mod Named
pub mod Stops
pub mod Writing
pub mod Once
