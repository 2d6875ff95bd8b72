pub mod Kept
pub mod Legs
pub mod Reached
pub mod Starts
pub mod Steps
pub mod Unique
