pub mod FirstEquation
pub mod Prefix
