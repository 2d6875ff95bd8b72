pub mod Conversation
pub mod Final
