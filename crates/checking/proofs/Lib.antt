pub mod CheckLemmas
mod LineLemmas
pub mod StepLemmas
pub mod RecheckLemmas
