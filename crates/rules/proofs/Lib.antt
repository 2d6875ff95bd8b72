pub mod Keeping
pub mod Memories
pub mod Only
pub mod Playing
pub mod Tests
pub mod Working
