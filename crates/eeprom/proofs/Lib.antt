pub mod Memories
pub mod Turns
pub mod Unique
