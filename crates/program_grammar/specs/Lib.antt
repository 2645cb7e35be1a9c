pub mod Words
pub mod Nodes
pub mod Values
pub mod Grammar
pub mod Readers
pub mod Readings
pub mod Written
pub mod Printed
