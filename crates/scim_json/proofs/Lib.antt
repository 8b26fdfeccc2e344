pub mod Lists
pub mod Parts
pub mod RepeatedNames
pub mod Texts
pub mod Utf8Texts
pub mod Written
