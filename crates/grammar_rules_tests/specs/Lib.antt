pub mod Sums
pub mod WordLines
