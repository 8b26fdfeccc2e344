-- Traces through resets: the journal that the connector left is reset, as `reset` does it, and the connector is opened
-- over what that leaves. Messages from before the reset may still be under way.
use Rattle.std.specs.Prelude.{◌≡◌, ◌⊎◌, ◌++◌, ℕ, Bool, true, false, List, Option}
use Rattle.std.specs.FinMap.{get, keys}
use Rattle.std.specs.List.{AllByRecursion}
use Rattle.std.specs.Option.{option_map}
use Rattle.scim_key.specs.Bases.{IsBase}
use Rattle.scim_key.specs.declared.records.RecordName.{RecordName}
use Rattle.provider_core.specs.declared.registry.Registry.{Ghosts as Registries}
use Rattle.source_csv.specs.Records.{IsRow}
use Rattle.source_csv.specs.declared.rows.Row.{Row}
use Rattle.journal_core.specs.Entries.{EntryMap}
use Rattle.journal_core.specs.Forgetting.{unlearnt}
use Rattle.journal_core.specs.declared.entries.Entry.{Entry}
use Rattle.journal_core.specs.declared.journals.Journal.{Ghosts as Journals}
use Rattle.journal_store.specs.Scopes.{after_reset}
use Rattle.journal_store.specs.declared.scopes.Scope.{Scope}
use Rattle.connector_core.specs.Changing.{taking_all}
use Rattle.connector_core.specs.History.{History}
use Rattle.connector_core.specs.Maps.{BookMap, book_of}
use Rattle.connector_core.specs.State.{AreOf, IsKept, IsOpened, LeavesBook, LeavesOneOf, State as Connector}
use Rattle.world_model.specs.World.{empty}
use Rattle.world_model.specs.Invariant.{Names}
use Rattle.world_model.specs.Others.{HeadlineAmong}
use Rattle.world_model.specs.Resetting.{Happening, IsLawfulHappening, StayApart, run_through}
use Rattle.promise.specs.Among.{PromisedAmong, StepAmong}
use Rattle.promise.specs.AmongTyped.{HasOurs}
use Rattle.promise.specs.Traces.{IsAt, State, Step, Trace, start}

-- ---- what a reset makes of the entries

abbrev pub reset_entry : (is_reset : Bool) → Entry → Entry
reset_entry true entry = unlearnt entry
reset_entry false entry = entry

-- the entries of these records are unlearnt, and the others stay
pub record IsReset (these : Names) (found kept : EntryMap) : Type 0 where
  pub entries : (name : RecordName) → get kept name ≡ option_map (reset_entry (these name)) (get found name)
  pub names : keys kept ≡ keys found

-- ---- steps

module _ {R J I O P Q : Type 0} (g : Registries R) (h : Journals J) (received : I → Option (List ℕ))
    (posted : O → Option (List ℕ)) (remaining : P → Option (List ℕ)) (contents : Q → Option (List ℕ))
    (base : List ℕ) (ours : Names) where
  -- One step among others, or a reset
  pub data StepThrough (old : State) : State → Type 0 where
    does : {new : State} → StepAmong g h received posted remaining contents base ours old new → StepThrough old new
    -- the entries that the journal has of the connector's book are reset, and the connector is opened over them
    resets : (these : Names) (found kept : EntryMap) (book : BookMap) → AreOf found (book_of old.book) (keys old.book)
        → IsReset these found kept → IsOpened kept book → StepThrough old (record old { book = book })

  -- Steps one after another
  pub data TraceThrough (old : State) : State → Type 0 where
    here : TraceThrough old old
    next : {mid new : State} → TraceThrough old mid → StepThrough mid new → TraceThrough old new

-- Two moments of a trace are two moments of a story of acts and resets, so the promise holds for our records
pub record AreRunsThrough (ours : Names) (s t : State) : Type 0 where
  pub early : List Happening
  pub late : List Happening
  pub apart : StayApart ours (early ++ late)
  pub lawful : AllByRecursion IsLawfulHappening (early ++ late)
  pub before : IsAt s (run_through empty early)
  pub after : IsAt t (run_through empty (early ++ late))
  pub headline : HeadlineAmong ours (run_through empty early) (run_through empty (early ++ late))
  pub promised : PromisedAmong ours s.history s.rows (book_of s.book) t.rows

-- ---- laws

module _ {R J I O P Q : Type 0} (g : Registries R) (h : Journals J) (received : I → Option (List ℕ))
    (posted : O → Option (List ℕ)) (remaining : P → Option (List ℕ)) (contents : Q → Option (List ℕ)) where
  -- if every record that the connector has is ours
  abbrev pub TracesThroughResets : Type 0
  TracesThroughResets =
      (base : List ℕ) (ours : Names) (s t : State) → IsBase base → HasOurs ours t.book
      → TraceThrough g h received posted remaining contents base ours start s
      → TraceThrough g h received posted remaining contents base ours s t → AreRunsThrough ours s t

  -- what `reset` makes of any entries that a stop of the last call leaves, and an opening over that, are a step
  abbrev pub ResetsAreSteps : Type 0
  ResetsAreSteps =
      (base : List ℕ) (ours : Names) (old : State) (last : Connector J) → last.book ≡ old.book → LeavesBook h last
      → (scope : Scope) (found kept : EntryMap) (book : BookMap) → h.may_hold last.journal found
      → kept ≡ after_reset scope found → IsOpened kept book
      → StepThrough g h received posted remaining contents base ours old (record old { book = book })

  -- what `close` gives back has the entries of the book, and an opening over them is a step
  abbrev pub ClosingIsAStep : Type 0
  ClosingIsAStep =
      (base : List ℕ) (old : State) (last : Connector J) → last.book ≡ old.book
      → IsKept (h.entries last.journal) last.book → (book : BookMap) → IsOpened (h.entries last.journal) book
      → Step g h received posted remaining contents base old (record old { book = book })

  -- After rows that were offered by one call. If it succeeded, all of them were accepted as they are one after another;
  -- if it failed, a stop leaves either that or the book as before (`leaves` of `change_all`)
  abbrev pub ReopeningAfterAll : Type 0
  ReopeningAfterAll =
      (base : List ℕ) (old : State) (before after : Connector J) (rows : List Row) → AllByRecursion IsRow rows
      → before.book ≡ old.book
      → ((after.book ≡ taking_all before.book rows) × LeavesBook h after)
      ⊎ LeavesOneOf h after.journal (book_of before.book) (book_of (taking_all before.book rows)) (keys before.book)
      (keys (taking_all before.book rows))
      → (found : EntryMap) (book : BookMap) → h.may_hold after.journal found → IsOpened found book
      → (history : History)
      × Trace g h received posted remaining contents base old (record old { history = history; book = book })
