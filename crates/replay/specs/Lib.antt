pub mod Plays
pub mod Pulses
pub mod Replay
