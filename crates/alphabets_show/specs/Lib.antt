pub mod Pieces
pub mod Sides
pub mod Expressions
pub mod Shown
pub mod Inner
