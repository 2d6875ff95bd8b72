pub mod Inside
pub mod Times
