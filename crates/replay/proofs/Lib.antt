pub mod Turns
pub mod Rows
pub mod Plays
pub mod Unique
