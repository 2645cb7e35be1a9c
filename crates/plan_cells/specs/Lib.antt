pub mod Numbering
pub mod Answers
pub mod Laws
pub mod Inner
