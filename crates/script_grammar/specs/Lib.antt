pub mod Words
pub mod Values
pub mod Grammar
pub mod Readers
pub mod Readings
pub mod Laws
