pub mod Written
pub mod Back
pub mod Tails
pub mod Going
pub mod Forms
pub mod Unique
