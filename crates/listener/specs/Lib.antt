pub mod Heard
pub mod Ranges
pub mod Settled
