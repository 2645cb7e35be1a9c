pub mod Made
pub mod Differences
