-- Several connectors share a provider, each with a source and a journal of its own, and others write there too. If no
-- two of the connectors have a record in common, the promise holds for each.
use Rattle.std.specs.Prelude.{ℕ, ◌==◌, List, [], Option, if◌then◌else◌}
use Rattle.std.specs.FinMap as fin
use Rattle.scim_key.specs.Bases.{IsBase}
use Rattle.scim_resource.specs.Rows.{StoredRecord}
use Rattle.scim_message.specs.declared.messages.Request.{Request}
use Rattle.provider_core.specs.declared.registry.Registry.{Ghosts as Registries}
use Rattle.journal_core.specs.declared.journals.Journal.{Ghosts as Journals}
use Rattle.connector_core.specs.History.{History}
use Rattle.connector_core.specs.Maps.{BookMap}
use Rattle.world_model.specs.Invariant.{Names}
use Rattle.world_model.specs.Several.{NoneShared}
use Rattle.promise.specs.Among.{AreRunsAmong, ServesTheirs}
use Rattle.promise.specs.AmongTyped.{HasOurs}
use Rattle.promise.specs.Traces.{State, Step, Written}

-- ---- sides

-- what is of one connector
pub record Side : Type 0 where
  pub history : History
  pub book : BookMap
  pub sent : List Request
  pub written : List Written

abbrev pub empty_side : Side
empty_side = record { history = []; book = fin.empty; sent = []; written = [] }

-- the rows of the provider that they share, and the connectors by their numbers: any number of them, since those that
-- do nothing stay empty
pub record Shared : Type 0 where
  pub rows : List StoredRecord
  pub sides : ℕ → Side

abbrev pub nobody : Shared
nobody = record { rows = []; sides = λ place. empty_side }

-- the state of one side: no other side is in it
abbrev pub state_of : List StoredRecord → Side → State
state_of rows side =
    record { rows = rows; history = side.history; book = side.book; sent = side.sent; written = side.written }

abbrev pub state_at : Shared → (place : ℕ) → State
state_at s place = state_of s.rows (s.sides place)

abbrev pub side_of : State → Side
side_of s = record { history = s.history; book = s.book; sent = s.sent; written = s.written }

-- this side and the provider are as in this state, and all other sides stay
abbrev pub with_state : Shared → (place : ℕ) → State → Shared
with_state s place t =
    record { rows = t.rows; sides = λ other. if place == other then side_of t else s.sides other }

-- ---- steps

module _ {R J I O P Q : Type 0} (g : Registries R) (h : Journals J) (received : I → Option (List ℕ))
    (posted : O → Option (List ℕ)) (remaining : P → Option (List ℕ)) (contents : Q → Option (List ℕ))
    (base : List ℕ) (ours : ℕ → Names) where
  -- One step
  pub data StepOfSeveral (old : Shared) : Shared → Type 0 where
    -- a step of one side
    on : (place : ℕ) (new : State) → Step g h received posted remaining contents base (state_at old place) new
        → StepOfSeveral old (with_state old place new)
    -- the provider serves a connection of somebody who is none of the connectors, and so is somebody else to each
    elsewhere : (rows : List StoredRecord)
        → ((place : ℕ)
        → ServesTheirs g h received posted remaining contents base (ours place) (state_at old place) rows)
        → StepOfSeveral old (record old { rows = rows })

  -- Steps one after another
  pub data TraceOfSeveral (old : Shared) : Shared → Type 0 where
    here : TraceOfSeveral old old
    next : {mid new : Shared} → TraceOfSeveral old mid → StepOfSeveral mid new → TraceOfSeveral old new

-- ---- the law

-- Two moments of a trace are, to each side, two moments of a run of the model among others, so the promise holds for
-- the records of each; if every record that a connector has is its own
abbrev pub TracesOfSeveralAreRuns : {R J I O P Q : Type 0} → Registries R → Journals J → (I → Option (List ℕ))
    → (O → Option (List ℕ)) → (P → Option (List ℕ)) → (Q → Option (List ℕ)) → Type 0
TracesOfSeveralAreRuns g h received posted remaining contents =
    (base : List ℕ) (ours : ℕ → Names) (s t : Shared) → IsBase base → NoneShared ours
    → ((place : ℕ) → HasOurs (ours place) (t.sides place).book)
    → TraceOfSeveral g h received posted remaining contents base ours nobody s
    → TraceOfSeveral g h received posted remaining contents base ours s t
    → (place : ℕ) → AreRunsAmong (ours place) (state_at s place) (state_at t place)
