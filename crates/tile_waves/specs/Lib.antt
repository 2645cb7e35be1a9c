pub mod Keys
pub mod Waves
pub mod Answers
pub mod Laws
pub mod Inner
