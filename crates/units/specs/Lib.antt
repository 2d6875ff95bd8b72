pub mod Line
pub mod Units
