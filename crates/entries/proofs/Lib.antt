pub mod Names
pub mod Texts
pub mod Unique
