pub mod Attributes
pub mod Plain
pub mod Parsing
pub mod Values
pub mod Writing
