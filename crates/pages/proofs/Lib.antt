pub mod Parts
pub mod Unique
