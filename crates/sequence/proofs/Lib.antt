pub mod Orbit
pub mod Draws
pub mod Unique
