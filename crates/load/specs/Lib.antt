pub mod Image
pub mod Load
