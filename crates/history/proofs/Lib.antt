pub mod Known
pub mod Later
pub mod Launched
pub mod Margins
pub mod Next
pub mod Spelling
