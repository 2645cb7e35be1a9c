pub mod Counted
pub mod Negations
pub mod Shares
pub mod Verdicts
