pub mod Cells
pub mod Beside
pub mod Lifetimes
pub mod Laws
pub mod Stored
pub mod Fits
pub mod Around
pub mod Ready
