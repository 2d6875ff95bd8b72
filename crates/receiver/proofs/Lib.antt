pub mod Going
pub mod Leads
pub mod Left
pub mod Unique
