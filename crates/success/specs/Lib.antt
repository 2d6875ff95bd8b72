pub mod Met
pub mod Success
