pub mod Download
pub mod History
pub mod Margins
