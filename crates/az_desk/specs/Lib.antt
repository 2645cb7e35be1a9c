pub mod Desk
pub mod Failing
pub mod Files
