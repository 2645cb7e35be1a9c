pub mod WrittenOf
pub mod Showable
