pub mod Exactly
pub mod Unique
