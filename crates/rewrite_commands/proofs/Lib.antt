pub mod HandedOn
pub mod Kept
pub mod Names
pub mod Once
pub mod Taken
pub mod Written
