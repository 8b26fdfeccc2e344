-- Traces among others: the provider serves connections of somebody else too. If what is asked for there leaves our
-- records alone, the promise holds for our records.
use Rattle.std.specs.Prelude.{◌≡◌, ◌≢◌, ◌↔◌, ℕ, ◌++◌, true, List, Option, Some, Ok, IfOk}
use Rattle.std.specs.List.{AllByRecursion}
use Rattle.scim_key.specs.Bases.{IsBase}
use Rattle.scim_key.specs.Identifiers.{id_text}
use Rattle.scim_key.specs.Revisions.{no_revision}
use Rattle.scim_key.specs.declared.records.RecordName.{RecordName}
use Rattle.scim_resource.specs.Contents.{content_name}
use Rattle.scim_resource.specs.Rows.{StoredRecord}
use Rattle.scim_message.specs.declared.messages.Request.{Request}
use Rattle.provider_core.specs.declared.registry.Registry.{Ghosts as Registries}
use Rattle.http_text.specs.Message.{Message}
use Rattle.scim_http.specs.Meaning.{Asks}
use Rattle.connection.specs.declared.answering.Served.{Served}
use Rattle.connection.specs.Turns.{IsServed}
use Rattle.journal_core.specs.declared.journals.Journal.{Ghosts as Journals}
use Rattle.connector_core.specs.Book.{Book}
use Rattle.connector_core.specs.History.{History}
use Rattle.connector_core.specs.Maps.{BookMap, book_of}
use Rattle.connector_core.specs.declared.knowledge.Known.{Known}
use Rattle.world_model.specs.World.{empty}
use Rattle.world_model.specs.Safe.{Has, HasReached, IsLater}
use Rattle.world_model.specs.Invariant.{Names, all_names}
use Rattle.world_model.specs.Others.{Act, HeadlineAmong, KeepsApart, LeavesAlone, run_among}
use Rattle.world_model.specs.Room.{IsLawfulAct}
use Rattle.promise.specs.AmongTyped.{HasOurs}
use Rattle.promise.specs.Traces.{AreRuns, Finds, IsAt, IsImageOf, Promised, State, Step, Trace, start}

-- what the message asks for, if it asks for something, leaves our records alone
abbrev pub AsksAlone : Names → Message → Type 0
AsksAlone ours m = (request : Request) → Asks m (Ok request) → LeavesAlone ours request

-- ---- steps

module _ {R J I O P Q : Type 0} (g : Registries R) (h : Journals J) (received : I → Option (List ℕ))
    (posted : O → Option (List ℕ)) (remaining : P → Option (List ℕ)) (contents : Q → Option (List ℕ))
    (base : List ℕ) (ours : Names) where
  -- One connection of somebody else. Anything may come there that leaves our records alone, and what was written there
  -- goes elsewhere
  pub record ServesTheirs (old : State) (rows : List StoredRecord) : Type 0 where
    pub before : R
    pub after : R
    pub reader : P
    pub writer : Q
    pub served : Served
    pub is : IsServed remaining contents g base before after reader writer served
    pub was : g.rows before ≡ old.rows
    pub alone : IfOk is.replied.read (AsksAlone ours)
    pub finds : Finds g before after rows

  -- One step
  pub data StepAmong (old : State) : State → Type 0 where
    -- a step of ours
    mine : {new : State} → Step g h received posted remaining contents base old new → StepAmong old new
    -- the provider serves a connection of somebody else
    theirs : (rows : List StoredRecord) → ServesTheirs old rows → StepAmong old (record old { rows = rows })

  -- Steps one after another
  pub data TraceAmong (old : State) : State → Type 0 where
    here : TraceAmong old old
    next : {mid new : State} → TraceAmong old mid → StepAmong mid new → TraceAmong old new

-- ---- what is promised

-- The promise for our records, of what the provider holds and what the connector knows at one moment, and of what the
-- provider holds later. Of all that it holds, there is at most one resource per name. Of our records, what it holds is
-- the image of its revision, its revision never goes back, and every revision that the connector counts as confirmed is
-- held or surpassed
pub record PromisedAmong (ours : Names) (history : History) (rows : List StoredRecord) (book : Book)
    (later : List StoredRecord) : Type 0 where
  pub one_per_name : (s t : StoredRecord) → Has rows s → Has rows t → content_name s.content ≡ content_name t.content
      → s.number ≡ t.number
  pub its_image : (s : StoredRecord) → Has rows s → ours (content_name s.content) ≡ true
      → IsImageOf history rows (content_name s.content) s.content
  pub never_back : (s : StoredRecord) → Has rows s → ours (content_name s.content) ≡ true
      → (t : StoredRecord) × Has later t × IsLater s t
  pub reached : (name : RecordName) (known : Known) → book name ≡ Some known → known.confirmed ≢ no_revision
      → (s : StoredRecord) × Has rows s × (content_name s.content ≡ name) × (known.id ≡ Some (id_text s.number))
      × HasReached known.confirmed s.content

-- Two moments of a trace are two moments of a run of the model among others, so the promise holds for our records
pub record AreRunsAmong (ours : Names) (s t : State) : Type 0 where
  pub early : List Act
  pub late : List Act
  pub apart : KeepsApart ours (early ++ late)
  pub lawful : AllByRecursion IsLawfulAct (early ++ late)
  pub before : IsAt s (run_among empty early)
  pub after : IsAt t (run_among empty (early ++ late))
  pub headline : HeadlineAmong ours (run_among empty early) (run_among empty (early ++ late))
  pub promised : PromisedAmong ours s.history s.rows (book_of s.book) t.rows

-- ---- laws

module _ {R J I O P Q : Type 0} (g : Registries R) (h : Journals J) (received : I → Option (List ℕ))
    (posted : O → Option (List ℕ)) (remaining : P → Option (List ℕ)) (contents : Q → Option (List ℕ)) where
  -- if every record that the connector has is ours
  abbrev pub TracesAreRunsAmong : Type 0
  TracesAreRunsAmong =
      (base : List ℕ) (ours : Names) (s t : State) → IsBase base → HasOurs ours t.book
      → TraceAmong g h received posted remaining contents base ours start s
      → TraceAmong g h received posted remaining contents base ours s t → AreRunsAmong ours s t

  -- without others, a trace is a trace among others, and if every record is ours, a run among others is a run of our
  -- events, and the promise is the one without others
  pub record TracesWithoutOthers : Type 0 where
    pub traces : (base : List ℕ) (ours : Names) (s t : State)
        → Trace g h received posted remaining contents base s t
        → TraceAmong g h received posted remaining contents base ours s t
    pub all_ours : (book : BookMap) → HasOurs all_names book
    pub runs : (s t : State) → AreRunsAmong all_names s t → AreRuns s t
    pub promised : (history : History) (rows : List StoredRecord) (book : Book) (later : List StoredRecord)
        → PromisedAmong all_names history rows book later ↔ Promised history rows book later
