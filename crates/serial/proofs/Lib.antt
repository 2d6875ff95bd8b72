pub mod Ignored
pub mod Kept
pub mod Places
pub mod Reached
pub mod Starts
pub mod Unique
