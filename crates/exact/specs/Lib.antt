pub mod Accepts
pub mod Exact
pub mod Good
pub mod Runs
pub mod Safe
