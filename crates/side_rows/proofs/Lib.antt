pub mod Sums
pub mod Widths
