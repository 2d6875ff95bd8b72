pub mod Entries
pub mod Named
