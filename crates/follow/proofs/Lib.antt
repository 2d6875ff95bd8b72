pub mod Stands
pub mod Unique
pub mod Unseen
