pub mod Sides
pub mod Scopes
pub mod Entries
pub mod Columns
pub mod Totals
pub mod Decisions
