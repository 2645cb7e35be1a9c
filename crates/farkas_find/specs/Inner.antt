-- Words about functions that no other crate sees. No law of a public call names them.
pub mod Nexts
pub mod Winners
