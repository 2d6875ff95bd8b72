pub mod Hears
pub mod Late
pub mod Ranges
