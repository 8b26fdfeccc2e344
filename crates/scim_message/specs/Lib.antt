pub mod Answers
pub mod Bodies
pub mod Faults
pub mod Fitting
pub mod Messages
pub mod Refusals
