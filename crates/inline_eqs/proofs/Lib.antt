pub mod ClosedUp
pub mod InliningFine
pub mod InliningGiven
pub mod InliningMeaning
pub mod RemovalFine
pub mod RemovalGiven
pub mod RemovalMeaning
pub mod Unused
