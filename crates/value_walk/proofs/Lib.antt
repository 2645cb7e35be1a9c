pub mod PointPlaces
pub mod SlotLemmas
pub mod Codes
pub mod Steps
pub mod Bodies
pub mod Readiness
pub mod Scanned
pub mod Evaluations
