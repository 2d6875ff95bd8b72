pub mod Exactly
pub mod Facts
pub mod Loads
pub mod Says
pub mod Unique
pub mod Within
