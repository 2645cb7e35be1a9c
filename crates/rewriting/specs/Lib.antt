pub mod Answers
pub mod Definitions
pub mod Equations
pub mod Named
pub mod Promise
pub mod Reads
