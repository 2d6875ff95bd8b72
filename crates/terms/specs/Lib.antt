pub mod Choice
pub mod Refusals
