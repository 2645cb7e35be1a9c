pub mod Assembled
pub mod BasisFine
pub mod BasisGiven
pub mod BasisMeaning
pub mod Changed
pub mod Inversions
pub mod MovedFaults
