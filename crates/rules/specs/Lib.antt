pub mod Pulses
pub mod Rules
