pub mod Files
pub mod Judging
pub mod Groups
pub mod Filling
pub mod Spelling
pub mod RoundTrip
pub mod Cases
pub mod Unique
