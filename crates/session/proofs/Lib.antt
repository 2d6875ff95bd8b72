pub mod Kept
pub mod Reached
pub mod Starts
pub mod Unique
pub mod Within
