-- The older formats of a journal, and how one is carried over to the next.
pub mod Format
pub mod Rows
pub mod Formats
pub mod Carrying
