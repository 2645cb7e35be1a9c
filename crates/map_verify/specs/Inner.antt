pub mod Ready
pub mod Outcomes
pub mod Checked
