pub mod Endings
pub mod Phases
pub mod Ranges
