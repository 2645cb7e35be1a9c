pub mod Refusing
pub mod Alike
pub mod Mapped
pub mod Resolved
pub mod Zeros
pub mod Stored
pub mod Setting
pub mod Once
