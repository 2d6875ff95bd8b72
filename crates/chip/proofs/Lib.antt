pub mod Listening
pub mod Reached
pub mod Sound
pub mod Steps
pub mod Unique
pub mod Within
