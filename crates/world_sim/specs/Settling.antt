-- A run to convergence: exchanges in which nothing is lost, until every record is confirmed.
use Rattle.std.specs.Prelude.{◌≡◌, ℕ, ◌*◌, ◌<◌, ◌≤◌, ◌^◌, Bool, true, false, List, length}
use Rattle.std.specs.List.{AllByRecursion}
use Rattle.scim_key.specs.declared.records.RecordName.{RecordName}
use Rattle.provider_core.specs.declared.registry.Registry.{Ghosts as Registries}
use Rattle.journal_core.specs.declared.journals.Journal.{Ghosts as Journals}
use Rattle.world_model.specs.Room.{HasRoom}
use Rattle.world_model.specs.Settled.{Exchanges, IsSettled, Rests, Turns, Wants, exchange}
use Rattle.world_model.specs.World.{World, Event, Changes, Sends, Delivers, Cuts, Restarts_provider, Restarts_connector, Doubts, empty, names, run}
use Rattle.world_sim.specs.Running.{Fails, Is, IsAmong, IsSound, Runs, Scope, journal_in, names_in}
use Rattle.world_sim.specs.declared.reports.Report.{Report}
use Rattle.world_sim.specs.declared.reports.WorldFault.{WorldFault}
use Rattle.world_sim.specs.declared.settling.Count.{Count}
use Rattle.world_sim.specs.declared.worlds.World.{World as Running}

-- ---- what is done

-- a request is sent, or a message arrives whole
abbrev pub IsSendOrDeliver : Event → Type 0
IsSendOrDeliver (Changes row) = ⊥
IsSendOrDeliver (Sends name) = Unit {0}
IsSendOrDeliver (Delivers number) = Unit {0}
IsSendOrDeliver (Cuts number length) = ⊥
IsSendOrDeliver Restarts_provider = ⊥
IsSendOrDeliver Restarts_connector = ⊥
IsSendOrDeliver (Doubts name) = ⊥

-- only Send and Deliver events were done, one after the other
pub record SendsAndDelivers {R J : Type 0} (g : Registries R) (h : Journals J) (old new : Running R J) : Type 0 where
  pub events : List Event
  pub only : AllByRecursion IsSendOrDeliver events
  pub told : List Report
  pub runs : Runs g h old new events told

-- ---- a run to convergence

-- `count` exchanges lead from w to v, and there every record is settled. Each exchange is one Send and the delivery
-- of its request and of its reply. Each record, in the order of names, has at most three, until there is nothing to
-- send for it
pub record IsSettling (w : World) (exchanges : ℕ) (v : World) : Type 0 where
  pub turns : Turns w (names w) exchanges v
  pub settled : IsSettled v

-- there is a run to convergence
abbrev pub MaySettle : World → Type 0
MaySettle w = (exchanges : ℕ) × (v : World) × IsSettling w exchanges v

-- Settles: only Send and Deliver events were done, in at most three exchanges for each record. For every world that
-- ran before, if a run reached it from empty stores with rows within the limits of the source, this was a run to
-- convergence with this number of exchanges. Among others who leave our records alone, it was one if the provider has
-- room for our records. From any start, it was the run to convergence if there is one
pub record Settles {R J : Type 0} (g : Registries R) (h : Journals J) (old new : Running R J)
    (count : Count) : Type 0 where
  pub done : SendsAndDelivers g h old new
  pub most : count.exchanges ≤ 3 * length (names_in h old.connector)
  pub settling : IsSound g h new → (w : World) → Is g h old w → IsSettling w count.exchanges (run w done.events)
  pub among : IsSound g h new → {scope : Scope} (w : World) → IsAmong g h scope old w → scope.start ≡ empty
      → HasRoom w → IsSettling w count.exchanges (run w done.events)
  pub found : IsSound g h new → {scope : Scope} (w : World) → IsAmong g h scope old w → (exchanges : ℕ) (v : World)
      → exchanges < 2 ^ 32 → IsSettling w exchanges v → (count.exchanges ≡ exchanges) × (run w done.events ≡ v)

-- Stops: some Send and Deliver events were done, and the next one failed with this fault. The world that they led
-- to still runs, if both stores are open, and may settle; among others, if the start was empty and the provider has
-- room for our records
pub record Stops {R J : Type 0} (g : Registries R) (h : Journals J) (old new : Running R J)
    (fault : WorldFault) : Type 0 where
  pub between : Running R J
  pub done : SendsAndDelivers g h old between
  pub next : Event
  pub is_next : IsSendOrDeliver next
  pub fails : Fails g h between new next fault
  pub again : IsSound g h new → g.is_faithful new.provider → h.is_faithful (journal_in new.connector)
      → (w : World) → Is g h old w → Is g h new (run w done.events) × MaySettle (run w done.events)
  pub among : IsSound g h new → g.is_faithful new.provider → h.is_faithful (journal_in new.connector)
      → {scope : Scope} (w : World) → IsAmong g h scope old w → IsAmong g h scope new (run w done.events)
      × (scope.start ≡ empty → HasRoom (run w done.events) → MaySettle (run w done.events))

-- ---- its steps

-- an exchange for the record if there is something to send for it, and nothing else
abbrev pub IsStep : World → RecordName → (made : Bool) → World → Type 0
IsStep w name true v = Wants w name × (v ≡ exchange w name)
IsStep w name false v = (Wants w name → ⊥) × (v ≡ w)

pub record TakesStep {R J : Type 0} (g : Registries R) (h : Journals J) (old new : Running R J)
    (name : RecordName) (made : Bool) : Type 0 where
  pub done : SendsAndDelivers g h old new
  pub step : IsSound g h new → {scope : Scope} (w : World) → IsAmong g h scope old w
      → IsStep w name made (run w done.events)

-- At most three exchanges; if `count` of them lead to nothing to send for the record, exactly these were made
pub record SettlesRecord {R J : Type 0} (g : Registries R) (h : Journals J) (old new : Running R J)
    (name : RecordName) (exchanges : ℕ) : Type 0 where
  pub done : SendsAndDelivers g h old new
  pub most : exchanges ≤ 3
  pub made : IsSound g h new → {scope : Scope} (w : World) → IsAmong g h scope old w → (count : ℕ) (v : World)
      → count ≤ 3 → Exchanges w name count v → Rests v name
      → (exchanges ≡ count) × (run w done.events ≡ v)
