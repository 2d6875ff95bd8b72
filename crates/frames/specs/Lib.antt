pub mod Frames
pub mod LowRuns
pub mod Spells
