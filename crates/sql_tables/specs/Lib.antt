pub mod Layouts
pub mod Faults
pub mod Statements
