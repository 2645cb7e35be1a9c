pub mod CoordinateText
pub mod Taking
pub mod Each
pub mod Kept
pub mod Ended
pub mod Once
pub mod Stopped
