pub mod Legs
pub mod Phases
pub mod Sessions
pub mod Spelled
