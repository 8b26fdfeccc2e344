mod ListLemmas
mod ServiceLemmas
mod OnwardLemmas
mod RestLemmas
mod RunLemmas
mod TurnLemmas
pub mod CarryLemmas
pub mod OfferLemmas
mod MoveLemmas
mod TrackLemmas
mod WindowLemmas
mod AbreastLemmas
pub mod AskedLemmas
pub mod InTurnLemmas
mod CompareLemmas
mod PlanLemmas
mod LeaverLemmas
