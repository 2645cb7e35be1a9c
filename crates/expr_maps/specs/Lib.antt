pub mod Answers
pub mod Columns
pub mod Folds
pub mod Laws
pub mod Put
pub mod Replaced
