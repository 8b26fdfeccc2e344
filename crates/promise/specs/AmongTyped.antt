-- Traces among others whose messages are requests and answers.
use Rattle.std.specs.Prelude.{◌≡◌, ◌++◌, true, List}
use Rattle.std.specs.FinMap.{keys}
use Rattle.std.specs.List.{AllByRecursion}
use Rattle.scim_message.specs.declared.messages.Request.{Request}
use Rattle.provider_core.specs.Outcomes.{outcome, changed_rows}
use Rattle.connector_core.specs.Maps.{BookMap}
use Rattle.world_model.specs.World.{empty}
use Rattle.world_model.specs.Invariant.{Names}
use Rattle.world_model.specs.Others.{Act, HeadlineAmong, KeepsApart, LeavesAlone, run_among}
use Rattle.world_model.specs.Room.{IsLawfulAct}
use Rattle.promise.specs.Typed.{Mirrors, State, Step, start}

-- every record that the connector has is ours
abbrev pub HasOurs : Names → BookMap → Type 0
HasOurs ours book = AllByRecursion (λ name. ours name ≡ true) (keys book)

-- One step
pub data StepAmong (ours : Names) (old : State) : State → Type 0 where
  -- a step of ours
  mine : {new : State} → Step old new → StepAmong ours old new
  -- somebody else's request comes to the provider, and leaves our records alone; its answer goes elsewhere
  theirs : (request : Request) → LeavesAlone ours request
      → StepAmong ours old (record old { rows = changed_rows old.rows (outcome old.rows request).change })

-- Steps one after another
pub data TraceAmong (ours : Names) (old : State) : State → Type 0 where
  here : TraceAmong ours old old
  next : {mid new : State} → TraceAmong ours old mid → StepAmong ours mid new → TraceAmong ours old new

-- Two moments of a trace are two moments of a run among others
pub record AreRunsAmong (ours : Names) (s t : State) : Type 0 where
  pub early : List Act
  pub late : List Act
  pub apart : KeepsApart ours (early ++ late)
  pub lawful : AllByRecursion IsLawfulAct (early ++ late)
  pub before : Mirrors s (run_among empty early)
  pub after : Mirrors t (run_among empty (early ++ late))
  pub headline : HeadlineAmong ours (run_among empty early) (run_among empty (early ++ late))

abbrev pub TypedTracesAreRunsAmong : Type 0
TypedTracesAreRunsAmong =
    (ours : Names) (s t : State) → HasOurs ours t.book → TraceAmong ours start s → TraceAmong ours s t
    → AreRunsAmong ours s t
