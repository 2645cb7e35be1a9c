pub mod Verdict
pub mod Directions
