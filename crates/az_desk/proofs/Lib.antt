pub mod DeskLemmas
pub mod FileLemmas
