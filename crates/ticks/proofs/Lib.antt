pub mod Sums
pub mod Unique
