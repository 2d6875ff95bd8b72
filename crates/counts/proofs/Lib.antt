pub mod Most
pub mod Ones
pub mod Plans
pub mod Sums
pub mod Unique
