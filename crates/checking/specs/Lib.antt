pub mod Checks
pub mod Counting
pub mod Findings
pub mod Laws
pub mod Lines
pub mod Rechecks
