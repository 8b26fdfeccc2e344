pub mod ImageLemmas
pub mod RunLemmas
mod StoredLemmas
pub mod AmongLemmas
pub mod ScopeLemmas
mod CheckLemmas
