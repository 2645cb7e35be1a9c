pub mod Counts
pub mod Evaluation
pub mod Inner
