pub mod Members
pub mod Boxes
pub mod Hulls
pub mod Answers
pub mod Nest
