pub mod Fewest
pub mod Packed
pub mod Spelling
