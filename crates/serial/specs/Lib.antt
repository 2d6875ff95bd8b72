pub mod Ignored
pub mod Phases
pub mod Reached
pub mod Replies
pub mod Step
