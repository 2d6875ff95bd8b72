pub mod Reached
pub mod Step
pub mod Time
