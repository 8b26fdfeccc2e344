pub mod Deadlines
pub mod Limits
