pub mod Distances
pub mod LowBitFirst
pub mod Unique
