pub mod Words
pub mod Lines
pub mod Parsing
pub mod Bindings
pub mod Evaluations
pub mod Requests
