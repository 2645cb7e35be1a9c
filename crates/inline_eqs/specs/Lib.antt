pub mod Inlining
pub mod Removal
