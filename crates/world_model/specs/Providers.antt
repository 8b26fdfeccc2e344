-- The same world with each kind of provider. A provider of the kind Versions drops the source extension: it answers
-- without revisions, and the connector goes by the answers to its own requests. The table keeps the revisions all the
-- same, so that the promise can speak of them; a provider that never gets one answers alike.
use Rattle.std.specs.Prelude.{◌≡◌, ◌≢◌, ◌↔◌, ◌⊎◌, ℕ, zero, suc, ◌+◌, ◌*◌, ◌<◌, ◌≤◌, true, List, [], ◌∷◌, ◌++◌}
use Rattle.std.specs.Prelude.{Option, Some, None, map, length}
use Rattle.std.specs.List.{AllByRecursion}
use Rattle.scim_key.specs.Revisions.{RevisionValue, no_revision, ◌≺◌, ◌≼◌}
use Rattle.scim_key.specs.declared.records.Kind.TheVariants as kinds
use Rattle.scim_key.specs.declared.records.RecordName.{RecordName}
use Rattle.scim_resource.specs.Contents.{content_name, content_with}
use Rattle.scim_resource.specs.Rows.{ShownRecord, last_version}
use Rattle.scim_resource.specs.declared.contents.Content.{Content}
use Rattle.scim_message.specs.Messages.{request_with}
use Rattle.scim_message.specs.declared.messages.Request.{Request}
use Rattle.scim_message.specs.declared.messages.Answer.{Answer}
use Rattle.provider_core.specs.Stories.{Entry, Step, story, step}
use Rattle.provider_core.specs.Tables.{shown_in}
use Rattle.source_csv.specs.Records.{row_revision}
use Rattle.source_csv.specs.declared.rows.Row.{Row}
use Rattle.comparing.specs.Aspects.{is_active}
use Rattle.connector_core.specs.Asking.{asking}
use Rattle.connector_core.specs.Book.{Book, confirmed_of, wanted_row, doubted, reopened}
use Rattle.connector_core.specs.Changing.{judging_by_source}
use Rattle.connector_core.specs.History.{rows_of, last_row, Rises}
use Rattle.connector_core.specs.Keeps.{forgot, learn_at}
use Rattle.connector_core.specs.declared.keeps.Keeps.{Keeps}
use Rattle.connector_core.specs.declared.keeps.Keeps.TheVariants.{Revisions, Versions}
use Rattle.connector_core.specs.Learning.{content_revision, after_learning}
use Rattle.connector_core.specs.declared.knowledge.Known.{Known}
use Rattle.connector_core.specs.declared.knowledge.Seen.{Seen}
use Rattle.connector_core.specs.declared.knowledge.Seen.TheVariants.{Unknown, Absent, At}
use Rattle.world_model.specs.World.{World, Message, Asked, Answered, Event, Changes, Sends, Delivers, Cuts}
use Rattle.world_model.specs.World.{Restarts_provider, Restarts_connector, Doubts, empty, judged, changes, sends}
use Rattle.world_model.specs.World.{message_at, happens, names, run}
use Rattle.world_model.specs.Safe.{Has, HasLeftSince, Headline, IsAt, IsEntryOf, IsImage, IsReached, IsVersion}
use Rattle.world_model.specs.Settled.{Wants, Rests, IsSettled}
use Rattle.world_model.specs.Untroubled.{IsLawful, request_content}
use Rattle.world_model.specs.Safe.{Onward, Safe, id_in, is_inactive}

-- ---- events

-- what a provider of this kind answers
abbrev pub answered : Keeps → Answer → Answer
answered Revisions answer = answer
answered Versions answer = forgot answer

abbrev pub replies_at : Keeps → World → Request → Step → World
replies_at keeps w request after =
    record w { entries = after.entries; messages = w.messages ++ Answered request (answered keeps after.answer) ∷ [] }

-- a request comes to the provider, a reply to the connector
abbrev pub arrives_at : Keeps → World → Message → World
arrives_at keeps w (Asked request) = replies_at keeps w request (step w.entries request)
arrives_at keeps w (Answered request answer) =
    record w { book = after_learning w.book (learn_at keeps w.book request answer) }

abbrev pub delivers_at : Keeps → World → Option Message → World
delivers_at keeps w None = w
delivers_at keeps w (Some message) = arrives_at keeps w message

-- One event
abbrev pub happens_at : Keeps → World → Event → World
happens_at keeps w (Changes row) = changes w row (judged w row)
happens_at keeps w (Sends name) = sends w (asking w.book name)
happens_at keeps w (Delivers number) = delivers_at keeps w (message_at w.messages number)
happens_at keeps w (Cuts number length) = w
happens_at keeps w Restarts_provider = w
happens_at keeps w Restarts_connector = record w { book = reopened w.book }
happens_at keeps w (Doubts name) = record w { book = doubted w.book name }

-- One event after the other
abbrev pub run_at : Keeps → World → List Event → World
run_at keeps w [] = w
run_at keeps w (event ∷ events) = run_at keeps (happens_at keeps w event) events

-- ---- at each moment

-- revisions that are shown strictly rise. Where none is shown, the same one may be written again
abbrev pub RisesAt : Keeps → RevisionValue → RevisionValue → Type 0
RisesAt Revisions r s = r ≺ s
RisesAt Versions r s = r ≼ s

abbrev pub StoryRisesAt : Keeps → List Content → Type 0
StoryRisesAt keeps contents = (i j : ℕ) (earlier later : Content) (r s : RevisionValue) → i < j
    → IsAt contents i earlier → IsAt contents j later
    → content_revision earlier ≡ Some r → content_revision later ≡ Some s → RisesAt keeps r s

-- the tag is that of a version of the record's entry. It has the revision that was noted; where none is shown, that one
-- or a later one
abbrev pub IsVersionAt : Keeps → List Entry → RecordName → (id tag : List ℕ) → RevisionValue → Type 0
IsVersionAt Revisions es name id tag revision = IsVersion es name id tag revision
IsVersionAt Versions es name id tag revision =
    (held : RevisionValue) × IsVersion es name id tag held × (revision ≼ held)

abbrev pub SeenTrulyAt : Keeps → List Entry → RecordName → Seen → Type 0
SeenTrulyAt keeps es name Unknown = Unit {0}
SeenTrulyAt keeps es name Absent = Unit {0}
SeenTrulyAt keeps es name (At id tag revision) = IsVersionAt keeps es name id tag revision

-- what the connector knows about a record is true
pub record KnownTrulyAt (keeps : Keeps) (es : List Entry) (name : RecordName) (known : Known) : Type 0 where
  pub id : (id : List ℕ) → known.id ≡ Some id → id_in es name ≡ Some id
  pub confirmed : known.confirmed ≢ no_revision → IsReached es name known.id known.confirmed
  pub within : known.confirmed ≼ row_revision known.wanted
  pub seen : SeenTrulyAt keeps es name known.seen

-- SafeAt: what Safe says, with stories and tags as this kind of provider has them
pub record SafeAt (keeps : Keeps) (w : World) : Type 0 where
  pub rows_rise : (name : RecordName) → Rises (rows_of w.history name)
  pub one_each : (i j : ℕ) (d e : Entry) → IsAt w.entries i d → IsAt w.entries j e → d.name ≡ e.name → i ≡ j
  pub stories_rise : (e : Entry) → Has w.entries e → StoryRisesAt keeps (story e)
  pub images : (e : Entry) (content : Content) → Has w.entries e → Has (story e) content
      → IsImage w.history w.entries e.name content
  pub wanted : (name : RecordName) → wanted_row w.book name ≡ last_row w.history name
  pub known : (name : RecordName) (known : Known) → w.book name ≡ Some known → KnownTrulyAt keeps w.entries name known
  pub leavers : (name : RecordName) (known : Known) (e : Entry) → name.kind ≡ kinds.User
      → w.book name ≡ Some known → IsEntryOf w.entries name e
      → HasLeftSince w.history name known.confirmed → is_inactive e.held ≡ true

-- ---- the laws of all runs, with each kind of provider

abbrev pub HeadlineHoldsAt : Type 0
HeadlineHoldsAt = (keeps : Keeps) (early late : List Event)
    → Headline (run_at keeps empty early) (run_at keeps empty (early ++ late))

abbrev pub AlwaysSafeAt : Type 0
AlwaysSafeAt = (keeps : Keeps) (events : List Event) → SafeAt keeps (run_at keeps empty events)

abbrev pub AlwaysOnwardAt : Type 0
AlwaysOnwardAt = (keeps : Keeps) (early late : List Event)
    → Onward (run_at keeps empty early) (run_at keeps empty (early ++ late))

abbrev pub JudgesBySourceAt : Type 0
JudgesBySourceAt = (keeps : Keeps) (events : List Event) (row : Row)
    → judged (run_at keeps empty events) row ≡ judging_by_source (run_at keeps empty events).history row

-- with a provider that keeps revisions, these are the laws without a kind
pub record WithRevisions : Type 0 where
  pub event : (w : World) (event : Event) → happens_at Revisions w event ≡ happens w event
  pub runs : (w : World) (events : List Event) → run_at Revisions w events ≡ run w events
  pub safe : (w : World) → SafeAt Revisions w ↔ Safe w

-- ---- what confirms

-- the request carried a content of this record at this revision, and whatever the answer shows has its name, and is
-- active if it is
pub record WasAsked (request : Request) (answer : Answer) (name : RecordName) (revision : RevisionValue) : Type 0 where
  pub content : Content
  pub carried : request_content request ≡ Some content
  pub of_record : content_name content ≡ name
  pub at_revision : content_revision content ≡ Some revision
  pub shown : (s : ShownRecord) → Has (shown_in answer) s
      → (content_name s.content ≡ name) × (is_active s.content ≡ is_active content)

-- whatever is answered by a provider that shows no revision, and whoever wrote what it shows: a confirmed revision
-- changes only to one that was asked for, by an answer that shows what was asked. So no search confirms
abbrev pub OnlyAnswersConfirm : Type 0
OnlyAnswersConfirm = (book : Book) (request : Request) (answer : Answer) (name : RecordName)
    → (confirmed_of (after_learning book (learn_at Versions book request answer)) name ≡ confirmed_of book name)
    ⊎ WasAsked request answer name (confirmed_of (after_learning book (learn_at Versions book request answer)) name)

-- ---- settling

-- One exchange, as with a provider that keeps revisions
abbrev pub exchange_at : Keeps → World → RecordName → World
exchange_at keeps w name =
    run_at keeps w (Sends name ∷ Delivers (suc (length w.messages)) ∷ Delivers (suc (suc (length w.messages))) ∷ [])

-- `count` exchanges for one record, each of which sends, lead from w to v
abbrev pub ExchangesAt : Keeps → World → RecordName → (count : ℕ) → World → Type 0
ExchangesAt keeps w name zero v = v ≡ w
ExchangesAt keeps w name (suc count) v = Wants w name × ExchangesAt keeps (exchange_at keeps w name) name count v

-- exchanges for each of these records in turn, until there is nothing to send for it, lead from w to v: at most three
-- for each, and `count` in all
abbrev pub TurnsAt : Keeps → World → List RecordName → (count : ℕ) → World → Type 0
TurnsAt keeps w [] count v = (v ≡ w) × (count ≡ 0)
TurnsAt keeps w (name ∷ names) count v = (here there : ℕ) × (u : World) × (here ≤ 3)
    × ExchangesAt keeps w name here u × Rests u name × TurnsAt keeps u names there v × (count ≡ here + there)

-- Where no revision is shown, the same one may be written more than once, so revisions don't bound a story. Each event
-- and each exchange writes at most one version, and all together are fewer than the versions that there may be
abbrev pub LeavesVersions : List Event → Type 0
LeavesVersions events = length events + 3 * length (names (run_at Versions empty events)) < last_version

-- from each world of a run that leaves versions, at most three exchanges for each record, in the order of names (users
-- before groups), settle all records
abbrev pub SettlesByAnswers : Type 0
SettlesByAnswers = (events : List Event) → AllByRecursion IsLawful events → LeavesVersions events
    → (count : ℕ) × (v : World)
    × TurnsAt Versions (run_at Versions empty events) (names (run_at Versions empty events)) count v × IsSettled v

-- ---- a provider that never gets a revision

abbrev pub forgot_entry : Entry → Entry
forgot_entry e = record e { earlier = map (content_with None) e.earlier; held = content_with None e.held }

abbrev pub forgot_entries : List Entry → List Entry
forgot_entries es = map forgot_entry es

-- It gives the same answers: what it holds and what it answers are those of a provider that gets revisions, forgotten
pub record Forgets (es : List Entry) (request : Request) : Type 0 where
  pub entries : (step (forgot_entries es) (request_with None request)).entries ≡ forgot_entries (step es request).entries
  pub answer : (step (forgot_entries es) (request_with None request)).answer ≡ forgot (step es request).answer

abbrev pub AlwaysForgets : Type 0
AlwaysForgets = (es : List Entry) (request : Request) → Forgets es request
