pub mod LowBitFirst
pub mod Reading
pub mod Replies
