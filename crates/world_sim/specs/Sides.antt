-- Opens the connector's side again.
use Rattle.std.specs.Prelude.{◌≡◌, ◌⊎◌, ◌≤◌, ℕ, Result, Ok, Err}
use Rattle.scim_key.specs.Stores.{HasRisen}
use Rattle.journal_core.specs.Calls.{OpensAgain, Reads}
use Rattle.journal_core.specs.declared.journals.Journal.{Ghosts as Journals}
use Rattle.connector_core.specs.State.{IsOpened}
use Rattle.world_sim.specs.declared.reports.WorldFault.{WorldFault}
use Rattle.world_sim.specs.declared.reports.WorldFault.TheVariants.{Memory, Store}
use Rattle.world_sim.specs.declared.sides.Side.{Side}
use Rattle.world_sim.specs.declared.sides.Side.TheVariants.{Open, Shut}

-- a store fault is counted; out of memory isn't
abbrev pub CountsWorldFault : (old new : ℕ) → WorldFault → Type 0
CountsWorldFault old new Store = (old ≤ new) × HasRisen old new
CountsWorldFault old new Memory = new ≡ old

-- a connector that was just opened has the entries of its journal
abbrev pub IsOpenedIn : {J : Type 0} → Journals J → Side J → Type 0
IsOpenedIn h (Open connector) = h.is_faithful connector.journal → IsOpened (h.entries connector.journal) connector.book
IsOpenedIn h (Shut journal) = Unit {0}

-- The journal was opened again, and then its entries were read; or it couldn't be opened
pub record IsOpenedAndRead {J : Type 0} (h : Journals J) (old new : J)
    (result : Result (Unit {0}) WorldFault) : Type 0 where
  pub between : J
  pub opened : OpensAgain {T = Unit {0}} {F = WorldFault} h CountsWorldFault old between (Ok tt)
  pub read : Reads h CountsWorldFault between new result

pub record IsRefused {J : Type 0} (h : Journals J) (old new : J) (result : Result (Unit {0}) WorldFault) : Type 0 where
  pub fault : WorldFault
  pub failed : result ≡ Err fault
  pub opened : OpensAgain h CountsWorldFault old new result

abbrev pub OpensThenReads : {J : Type 0} → Journals J → (old new : J) → Result (Unit {0}) WorldFault → Type 0
OpensThenReads h old new result = IsOpenedAndRead h old new result ⊎ IsRefused h old new result

-- the same for a fault that comes with both stores
abbrev pub CountsStart : {R J : Type 0} → (old new : ℕ) → WorldFault × R × J → Type 0
CountsStart old new refused = CountsWorldFault old new refused.0
