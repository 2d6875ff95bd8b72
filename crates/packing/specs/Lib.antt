pub mod Fewest
pub mod Filling
pub mod Pairs
pub mod Phases
pub mod Runs
pub mod Values
