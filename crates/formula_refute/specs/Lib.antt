pub mod Claims
pub mod Cases
pub mod Opposite
pub mod Domains
pub mod Fronts
pub mod Promise
pub mod Answers
pub mod Inner
