pub mod Spells
pub mod Unique
