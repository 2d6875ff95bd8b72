pub mod Bounds
pub mod Unique
