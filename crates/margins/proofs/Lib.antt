pub mod Sides
pub mod Unique
