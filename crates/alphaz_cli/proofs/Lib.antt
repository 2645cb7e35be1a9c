pub mod AllKnown
pub mod BoundKept
pub mod Evaluating
pub mod OneRun
pub mod OneTask
pub mod Ran
pub mod CommandsLeft
pub mod Scripts
