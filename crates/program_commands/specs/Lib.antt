pub mod Programs
pub mod Commands
