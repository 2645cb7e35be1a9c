pub mod Formulas
pub mod Certificates
pub mod Verdicts
pub mod Mistakes
pub mod Promise
pub mod Inner
