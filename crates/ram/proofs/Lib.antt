pub mod Stored
pub mod Sums
pub mod Unique
