pub mod Context
pub mod Directions
pub mod Checks
pub mod Cases
pub mod Stops
pub mod Promise
pub mod Inner
