pub mod Bounds
pub mod Never
pub mod Unique
