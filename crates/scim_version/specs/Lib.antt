pub mod Tags
pub mod Lists
pub mod Conditions
