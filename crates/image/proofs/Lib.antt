pub mod Counting
pub mod Taken
pub mod Unique
