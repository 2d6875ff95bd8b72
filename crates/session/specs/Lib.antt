pub mod Ranges
pub mod Reached
pub mod Step
