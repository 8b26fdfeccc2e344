pub mod Grammar
pub mod Blanks
pub mod Parts
pub mod Choices
pub mod Versions
pub mod Whole
pub mod Listing
pub mod Spelling
