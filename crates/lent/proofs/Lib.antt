pub mod Totals
pub mod Unique
