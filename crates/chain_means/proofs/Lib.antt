pub mod SideValues
pub mod Chains
pub mod Examples
