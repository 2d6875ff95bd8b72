pub mod Late
pub mod Unique
