pub mod OneCertificate
pub mod Once
pub mod Stops
