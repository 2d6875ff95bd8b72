pub mod Answers
pub mod Refusals
pub mod Tables
pub mod Tests
pub mod Unique
