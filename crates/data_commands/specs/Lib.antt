pub mod Parameters
pub mod Tables
pub mod Outputs
pub mod Commands
