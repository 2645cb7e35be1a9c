pub mod Numbers
pub mod Records
pub mod TableOf
pub mod Inner
pub mod Written
pub mod Faults
pub mod Answers
