pub mod Makes
pub mod Cells
