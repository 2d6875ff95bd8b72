pub mod Budget
pub mod Runs
pub mod Sound
pub mod Turns
pub mod Unique
