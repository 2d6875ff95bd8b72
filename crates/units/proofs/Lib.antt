pub mod Conversions
pub mod Differences
pub mod Lines
pub mod Unique
