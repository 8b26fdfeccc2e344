pub mod SearchLemmas
pub mod ServedLemmas
pub mod ReplyLemmas
mod RequestLemmas
mod HoldingLemmas
mod RoundLemmas
mod StreamLemmas
mod TurnLemmas
mod LineLemmas
mod MemoryLemmas
mod ArrivingLemmas
