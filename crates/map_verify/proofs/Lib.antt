pub mod Alongside
pub mod Placed
mod Progress
pub mod Falsity
pub mod Judged
pub mod OneVerdict
pub mod Accepted
mod Promised
