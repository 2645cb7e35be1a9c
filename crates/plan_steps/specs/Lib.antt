pub mod Layouts
pub mod Runs
pub mod Settled
pub mod Inner
