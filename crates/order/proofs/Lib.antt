pub mod Counting
pub mod Orders
pub mod Unique
