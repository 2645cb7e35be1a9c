pub mod Built
pub mod Ready
pub mod Walked
