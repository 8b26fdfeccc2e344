-- The same world with a provider that drops the source extension, shows no versions and obeys no condition. There an
-- old request may overwrite what a later one wrote, so the promise has a premise: no request that writes a record is
-- delivered after a later one that writes the same record was sent.
use Rattle.std.specs.Prelude.{◌≡◌, ◌≢◌, ℕ, zero, suc, ◌+◌, ◌*◌, ◌<◌, ◌≤◌, true, List, [], ◌∷◌, ◌++◌, length}
use Rattle.std.specs.Prelude.{Option, Some, None}
use Rattle.std.specs.List.{AllByRecursion}
use Rattle.scim_key.specs.Revisions.{no_revision, ◌≼◌}
use Rattle.scim_key.specs.declared.records.Kind.TheVariants as kinds
use Rattle.scim_key.specs.declared.records.RecordName.{RecordName}
use Rattle.scim_resource.specs.Contents.{content_name}
use Rattle.scim_resource.specs.Rows.{last_version}
use Rattle.scim_resource.specs.declared.contents.Content.{Content}
use Rattle.scim_message.specs.Messages.{answer_under, unconditional}
use Rattle.scim_message.specs.declared.messages.Request.{Request}
use Rattle.scim_message.specs.declared.messages.Answer.{Answer}
use Rattle.provider_core.specs.Stories.{Entry, Step, story, step}
use Rattle.source_csv.specs.Records.{row_revision}
use Rattle.source_csv.specs.declared.rows.Row.{Row}
use Rattle.connector_core.specs.Book.{wanted_row}
use Rattle.connector_core.specs.Changing.{judging_by_source}
use Rattle.connector_core.specs.History.{rows_of, last_row, Rises}
use Rattle.connector_core.specs.Keeps.{forgot, no_version}
use Rattle.connector_core.specs.declared.keeps.Keeps.TheVariants.{Versions}
use Rattle.connector_core.specs.declared.knowledge.Known.{Known}
use Rattle.connector_core.specs.declared.knowledge.Seen.{Seen}
use Rattle.connector_core.specs.declared.knowledge.Seen.TheVariants.{Unknown, Absent, At}
use Rattle.world_model.specs.World.{World, Message, Asked, Answered, Event, Changes, Sends, Delivers, Cuts}
use Rattle.world_model.specs.World.{Restarts_provider, Restarts_connector, Doubts, empty, judged, message_at, names}
use Rattle.world_model.specs.Safe.{Has, HasLeftSince, Headline, IsAt, IsEntryOf, IsImage, IsReached, Onward}
use Rattle.world_model.specs.Safe.{id_in, is_inactive}
use Rattle.world_model.specs.Providers.{IsVersionAt, StoryRisesAt, arrives_at, happens_at}
use Rattle.world_model.specs.Settled.{Wants, Rests, IsSettled}
use Rattle.world_model.specs.Untroubled.{IsLawful, request_content}
use Rattle.world_model.specs.Invariant.{Names}
use Rattle.world_model.specs.Others.{Act, Ours, Theirs, KeepsApart, HeadlineAmong}

-- ---- events

-- what the connector takes an answer for: no resource has a revision, and each is under
-- the tag that is taken if none is shown
abbrev pub taken_for : Answer → Answer
taken_for answer = answer_under no_version (forgot answer)

-- the provider has the table after the request, and its reply is sent
abbrev pub replies_without_versions : World → Request → Step → World
replies_without_versions w request after =
    record w { entries = after.entries; messages = w.messages ++ Answered request (taken_for after.answer) ∷ [] }

-- a request comes to the provider, which carries it out without its conditions; a reply comes to the connector
abbrev pub arrives_without_versions : World → Message → World
arrives_without_versions w (Asked request) = replies_without_versions w request (step w.entries (unconditional request))
arrives_without_versions w (Answered request answer) = arrives_at Versions w (Answered request answer)

abbrev pub delivers_without_versions : World → Option Message → World
delivers_without_versions w None = w
delivers_without_versions w (Some message) = arrives_without_versions w message

-- One event: only what arrives differs
abbrev pub happens_without_versions : World → Event → World
happens_without_versions w (Changes row) = happens_at Versions w (Changes row)
happens_without_versions w (Sends name) = happens_at Versions w (Sends name)
happens_without_versions w (Delivers number) = delivers_without_versions w (message_at w.messages number)
happens_without_versions w (Cuts number length) = happens_at Versions w (Cuts number length)
happens_without_versions w Restarts_provider = happens_at Versions w Restarts_provider
happens_without_versions w Restarts_connector = happens_at Versions w Restarts_connector
happens_without_versions w (Doubts name) = happens_at Versions w (Doubts name)

-- One event after the other
abbrev pub run_without_versions : World → List Event → World
run_without_versions w [] = w
run_without_versions w (event ∷ events) = run_without_versions (happens_without_versions w event) events

-- ---- the premise of order

-- after the request at this place no other was sent that writes the same record
abbrev pub IsLastOf : List Message → (place : ℕ) → Request → Type 0
IsLastOf messages place request = (later : ℕ) (other : Request) (c d : Content) → place < later
    → IsAt messages later (Asked other) → request_content request ≡ Some c → request_content other ≡ Some d
    → content_name c ≡ content_name d → ⊥

-- a request that is delivered is the last of its record that was sent
abbrev pub IsInOrder : World → Event → Type 0
IsInOrder w (Changes row) = Unit {0}
IsInOrder w (Sends name) = Unit {0}
IsInOrder w (Delivers number) = (place : ℕ) (request : Request) → number ≡ suc place
    → IsAt w.messages place (Asked request) → IsLastOf w.messages place request
IsInOrder w (Cuts number length) = Unit {0}
IsInOrder w Restarts_provider = Unit {0}
IsInOrder w Restarts_connector = Unit {0}
IsInOrder w (Doubts name) = Unit {0}

-- along a run, no request that writes a record is delivered after a later one that writes the same record was sent
abbrev pub KeepsOrder : World → List Event → Type 0
KeepsOrder w [] = Unit {0}
KeepsOrder w (event ∷ events) = IsInOrder w event × KeepsOrder (happens_without_versions w event) events

-- ---- at each moment

-- what was seen is the record's entry, and some version of it has the noted revision or a later one, whatever its tag
abbrev pub SeenTrulyWithoutVersions : List Entry → RecordName → Seen → Type 0
SeenTrulyWithoutVersions es name Unknown = Unit {0}
SeenTrulyWithoutVersions es name Absent = Unit {0}
SeenTrulyWithoutVersions es name (At id tag revision) =
    (its_tag : List ℕ) × IsVersionAt Versions es name id its_tag revision

-- what the connector knows about a record is true
pub record KnownTrulyWithoutVersions (es : List Entry) (name : RecordName) (known : Known) : Type 0 where
  pub id : (id : List ℕ) → known.id ≡ Some id → id_in es name ≡ Some id
  pub confirmed : known.confirmed ≢ no_revision → IsReached es name known.id known.confirmed
  pub within : known.confirmed ≼ row_revision known.wanted
  pub seen : SeenTrulyWithoutVersions es name known.seen

-- SafeWithoutVersions: what SafeAt says, with nothing about tags
pub record SafeWithoutVersions (w : World) : Type 0 where
  pub rows_rise : (name : RecordName) → Rises (rows_of w.history name)
  pub one_each : (i j : ℕ) (d e : Entry) → IsAt w.entries i d → IsAt w.entries j e → d.name ≡ e.name → i ≡ j
  pub stories_rise : (e : Entry) → Has w.entries e → StoryRisesAt Versions (story e)
  pub images : (e : Entry) (content : Content) → Has w.entries e → Has (story e) content
      → IsImage w.history w.entries e.name content
  pub wanted : (name : RecordName) → wanted_row w.book name ≡ last_row w.history name
  pub known : (name : RecordName) (known : Known) → w.book name ≡ Some known
      → KnownTrulyWithoutVersions w.entries name known
  pub leavers : (name : RecordName) (known : Known) (e : Entry) → name.kind ≡ kinds.User
      → w.book name ≡ Some known → IsEntryOf w.entries name e
      → HasLeftSince w.history name known.confirmed → is_inactive e.held ≡ true

-- ---- the laws of all runs that keep the order, and of all runs

abbrev pub HeadlineHoldsWithoutVersions : Type 0
HeadlineHoldsWithoutVersions = (early late : List Event) → KeepsOrder empty (early ++ late)
    → Headline (run_without_versions empty early) (run_without_versions empty (early ++ late))

abbrev pub AlwaysSafeWithoutVersions : Type 0
AlwaysSafeWithoutVersions = (events : List Event) → KeepsOrder empty events
    → SafeWithoutVersions (run_without_versions empty events)

-- in whatever order requests arrive
abbrev pub AlwaysOnwardWithoutVersions : Type 0
AlwaysOnwardWithoutVersions = (early late : List Event)
    → Onward (run_without_versions empty early) (run_without_versions empty (early ++ late))

-- in whatever order requests arrive
abbrev pub JudgesBySourceWithoutVersions : Type 0
JudgesBySourceWithoutVersions = (events : List Event) (row : Row)
    → judged (run_without_versions empty events) row ≡ judging_by_source (run_without_versions empty events).history row

-- ---- among others

-- One act: an event of our world, or somebody else's request, which the provider carries out without its conditions;
-- its answer goes elsewhere
abbrev pub acts_without_versions : World → Act → World
acts_without_versions w (Ours event) = happens_without_versions w event
acts_without_versions w (Theirs request) = record w { entries = (step w.entries (unconditional request)).entries }

-- One act after the other
abbrev pub run_without_versions_among : World → List Act → World
run_without_versions_among w [] = w
run_without_versions_among w (act ∷ later) = run_without_versions_among (acts_without_versions w act) later

-- an event of ours is in order; others send what they like, when they like
abbrev pub IsActInOrder : World → Act → Type 0
IsActInOrder w (Ours event) = IsInOrder w event
IsActInOrder w (Theirs request) = Unit {0}

-- along acts, no request of ours that writes a record is delivered after a later one that writes the same record was
-- sent
abbrev pub KeepsOrderAmong : World → List Act → Type 0
KeepsOrderAmong w [] = Unit {0}
KeepsOrderAmong w (act ∷ later) = IsActInOrder w act × KeepsOrderAmong (acts_without_versions w act) later

abbrev pub HeadlineHoldsWithoutVersionsAmong : Type 0
HeadlineHoldsWithoutVersionsAmong = (ours : Names) (early late : List Act) → KeepsApart ours (early ++ late)
    → KeepsOrderAmong empty (early ++ late)
    → HeadlineAmong ours (run_without_versions_among empty early) (run_without_versions_among empty (early ++ late))

-- whatever others write, and in whatever order requests arrive
abbrev pub AlwaysOnwardWithoutVersionsAmong : Type 0
AlwaysOnwardWithoutVersionsAmong = (early late : List Act)
    → Onward (run_without_versions_among empty early) (run_without_versions_among empty (early ++ late))

-- ---- settling

-- One exchange, as with versions
abbrev pub exchange_without_versions : World → RecordName → World
exchange_without_versions w name = run_without_versions w
    (Sends name ∷ Delivers (suc (length w.messages)) ∷ Delivers (suc (suc (length w.messages))) ∷ [])

-- `count` exchanges for one record, each of which sends, lead from w to v
abbrev pub ExchangesWithoutVersions : World → RecordName → (count : ℕ) → World → Type 0
ExchangesWithoutVersions w name zero v = v ≡ w
ExchangesWithoutVersions w name (suc count) v =
    Wants w name × ExchangesWithoutVersions (exchange_without_versions w name) name count v

-- exchanges for each of these records in turn, until there is nothing to send for it, lead from w to v: at most three
-- for each, and `count` in all
abbrev pub TurnsWithoutVersions : World → List RecordName → (count : ℕ) → World → Type 0
TurnsWithoutVersions w [] count v = (v ≡ w) × (count ≡ 0)
TurnsWithoutVersions w (name ∷ names) count v = (here there : ℕ) × (u : World) × (here ≤ 3)
    × ExchangesWithoutVersions w name here u × Rests u name × TurnsWithoutVersions u names there v
    × (count ≡ here + there)

-- Each event and each exchange writes at most one version. All together are fewer than the versions that there may be
abbrev pub HasVersionsLeft : List Event → Type 0
HasVersionsLeft events =
    length events + 3 * length (names (run_without_versions empty events)) < last_version

-- from each world of a run that keeps the order and leaves versions, at most three exchanges for each record, in the
-- order of names (users before groups), settle all records
abbrev pub SettlesWithoutVersions : Type 0
SettlesWithoutVersions = (events : List Event) → AllByRecursion IsLawful events → KeepsOrder empty events
    → HasVersionsLeft events → (count : ℕ) × (v : World)
    × TurnsWithoutVersions (run_without_versions empty events) (names (run_without_versions empty events)) count v
    × IsSettled v
