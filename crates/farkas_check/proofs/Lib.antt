pub mod Divisors
pub mod Steps
pub mod Derivations
pub mod Soundness
pub mod Points
pub mod Traces
