pub mod Bound
pub mod Evaluation
pub mod Outcomes
pub mod Runs
pub mod Scripts
pub mod Tasks
