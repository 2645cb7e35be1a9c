pub mod Stops
pub mod Numbers
pub mod Names
pub mod Maps
pub mod Shapes
pub mod Parts
pub mod Commands
