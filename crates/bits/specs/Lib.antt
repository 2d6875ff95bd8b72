pub mod Bits
pub mod Seeing
