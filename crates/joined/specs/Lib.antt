pub mod Ends
pub mod Joined
pub mod Run
