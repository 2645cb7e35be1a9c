pub mod Boxes
pub mod Ranges
pub mod Spaces
pub mod Apart
pub mod Loops
pub mod Coordinates
