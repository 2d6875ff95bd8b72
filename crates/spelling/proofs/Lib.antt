pub mod Bytes
pub mod Calls
pub mod Fewest
pub mod Fills
pub mod Packed
pub mod Runs
pub mod Says
pub mod Whole
