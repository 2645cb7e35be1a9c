pub mod Comparisons
pub mod Examples
