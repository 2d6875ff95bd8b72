pub mod Ends
pub mod Places
pub mod Unique
