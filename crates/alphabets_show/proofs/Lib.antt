pub mod Texts
pub mod Terms
pub mod Counted
pub mod Forms
