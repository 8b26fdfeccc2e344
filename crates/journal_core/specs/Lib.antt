pub mod Entries
pub mod Forgetting
pub mod Stores
pub mod Calls
pub mod Memory
pub mod MemoryLaws
pub mod Words
pub mod Printable
