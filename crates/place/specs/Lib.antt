pub mod Endings
pub mod Phases
