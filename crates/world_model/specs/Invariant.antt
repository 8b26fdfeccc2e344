-- What every event keeps, and so what is true after every run: the reason why the promise holds. What was true of a
-- message when it was sent stays true.
-- It is true of the records that are ours, whatever others wrote of other records. Without others, every record is
-- ours.
use Rattle.std.specs.Prelude.{◌≡◌, ◌≢◌, ◌⊎◌, ℕ, ◌≤◌, Bool, true, false, List, [], ◌∷◌, length, Option, Some}
use Rattle.scim_key.specs.Revisions.{RevisionValue, no_revision, ◌≺◌, ◌≼◌}
use Rattle.scim_key.specs.declared.records.RecordName.{RecordName}
use Rattle.scim_version.specs.declared.conditions.Condition.{Condition}
use Rattle.scim_version.specs.declared.conditions.Condition.TheVariants.{Tags}
use Rattle.scim_resource.specs.Contents.{content_name}
use Rattle.scim_resource.specs.Rows.{ShownRecord, last_version}
use Rattle.scim_resource.specs.declared.contents.Content.{Content}
use Rattle.scim_message.specs.declared.messages.Request.{Request}
use Rattle.scim_message.specs.declared.messages.Request.TheVariants.{Create, Retrieve, Search, Replace}
use Rattle.scim_message.specs.declared.messages.Answer.{Answer}
use Rattle.provider_core.specs.Stories.{Entry, story}
use Rattle.provider_core.specs.Tables.{IsWholeTable, IsFact, shown_in}
use Rattle.source_csv.specs.Records.{row_name, row_revision}
use Rattle.source_csv.specs.declared.rows.Row.{Row}
use Rattle.mapping.specs.Images.{image}
use Rattle.connector_core.specs.History.{History, rows_of, last_row, AllRise}
use Rattle.connector_core.specs.Asking.{search_for}
use Rattle.connector_core.specs.Book.{Book, known_id, wanted_row}
use Rattle.connector_core.specs.Keeps.{shown_with, heard}
use Rattle.connector_core.specs.declared.keeps.Keeps.{Keeps}
use Rattle.connector_core.specs.declared.keeps.Keeps.TheVariants.{Revisions, Versions}
use Rattle.connector_core.specs.Learning.{content_revision}
use Rattle.connector_core.specs.declared.knowledge.Known.{Known}
use Rattle.connector_core.specs.declared.knowledge.Seen.TheVariants.{At}
use Rattle.world_model.specs.World.{World, Message, Asked, Answered, Event, happens, empty, run}
use Rattle.world_model.specs.Untroubled.{request_content}
use Rattle.world_model.specs.Safe.{Has, IsAt, IsImage, IsVersion, id_in}
use Rattle.world_model.specs.Providers.{RisesAt, StoryRisesAt, happens_at}

-- ---- which records are ours

-- the records whose names pass this test
abbrev pub Names : Type 0
Names = RecordName → Bool

-- every record is ours
abbrev pub all_names : Names
all_names name = true

-- every accepted row is of a record of ours
abbrev pub AllOurs : Names → History → Type 0
AllOurs ours history = (row : Row) → Has history row → ours (row_name row) ≡ true

-- ---- the provider

-- no two entries are of the same record; along each story of ours revisions rise, and each content is the image of its
-- row
pub record KeptAt (keeps : Keeps) (ours : Names) (history : History) (es : List Entry) : Type 0 where
  pub whole : IsWholeTable es
  pub rises : (i : ℕ) (e : Entry) → IsAt es i e → ours e.name ≡ true → StoryRisesAt keeps (story e)
  pub imaged : (i j : ℕ) (e : Entry) (c : Content) → IsAt es i e → ours e.name ≡ true → IsAt (story e) j c
      → IsImage history es e.name c
  pub short : (i : ℕ) (e : Entry) → IsAt es i e → length (story e) ≤ last_version

abbrev pub Kept : Names → History → List Entry → Type 0
Kept ours history es = KeptAt Revisions ours history es

-- ---- the connector

-- the wanted row of a record is its last row
abbrev pub Follows : Book → History → Type 0
Follows book history = (name : RecordName) → wanted_row book name ≡ last_row history name

-- the known id has a version of this revision
pub record HasVersion (es : List Entry) (name : RecordName) (known_id : Option (List ℕ))
    (revision : RevisionValue) : Type 0 where
  pub id : List ℕ
  pub known : known_id ≡ Some id
  pub tag : List ℕ
  pub version : IsVersion es name id tag revision

-- a tag in sight is that of a version, whose revision counts as confirmed; if the record is doubted, it is below the
-- wanted one
pub record InSight (es : List Entry) (name : RecordName) (known : Known) (id tag : List ℕ)
    (revision : RevisionValue) : Type 0 where
  pub version : IsVersion es name id tag revision
  pub counted : known.is_doubted ≡ false → revision ≼ known.confirmed
  pub lower : known.is_doubted ≡ true → revision ≺ row_revision known.wanted

-- where no revision is shown, the tag is that of a version of the noted revision or a later one, up to the wanted one
pub record InSightFrom (es : List Entry) (name : RecordName) (known : Known) (id tag : List ℕ)
    (revision : RevisionValue) : Type 0 where
  pub held : RevisionValue
  pub version : IsVersion es name id tag held
  pub from : revision ≼ held
  pub up : held ≼ row_revision known.wanted

abbrev pub InSightAt : Keeps → List Entry → RecordName → Known → (id tag : List ℕ) → RevisionValue → Type 0
InSightAt Revisions es name known id tag revision = InSight es name known id tag revision
InSightAt Versions es name known id tag revision = InSightFrom es name known id tag revision

-- what the connector knows about a record is true
pub record NotedAt (keeps : Keeps) (es : List Entry) (name : RecordName) (known : Known) : Type 0 where
  pub id : (id : List ℕ) → known.id ≡ Some id → id_in es name ≡ Some id
  pub confirmed : known.confirmed ≢ no_revision → HasVersion es name known.id known.confirmed
  pub within : known.confirmed ≼ row_revision known.wanted
  pub seen : (id tag : List ℕ) (revision : RevisionValue) → known.seen ≡ At id tag revision
      → InSightAt keeps es name known id tag revision

abbrev pub Noted : List Entry → RecordName → Known → Type 0
Noted es name known = NotedAt Revisions es name known

abbrev pub AllNotedAt : Keeps → List Entry → Book → Type 0
AllNotedAt keeps es book = (name : RecordName) (known : Known) → book name ≡ Some known → NotedAt keeps es name known

abbrev pub AllNoted : List Entry → Book → Type 0
AllNoted es book = AllNotedAt Revisions es book

-- ---- the messages

-- a Replace carries an image, and the tag of a version of its record whose revision is lower; where none is shown, it
-- isn't higher
pub record OverwritesAt (keeps : Keeps) (history : History) (es : List Entry) (id : List ℕ) (content : Content)
    (if_match : Condition) : Type 0 where
  pub image : IsImage history es (content_name content) content
  pub tag : List ℕ
  pub alone : if_match ≡ Tags (tag ∷ [])
  pub older : RevisionValue
  pub newer : RevisionValue
  pub version : IsVersion es (content_name content) id tag older
  pub revision : content_revision content ≡ Some newer
  pub rises : RisesAt keeps older newer

abbrev pub Overwrites : History → List Entry → List ℕ → Content → Condition → Type 0
Overwrites history es id content if_match = OverwritesAt Revisions history es id content if_match

-- a Search is for an accepted row
pub record Sought (history : History) (request : Request) : Type 0 where
  pub row : Row
  pub accepted : Has (rows_of history (row_name row)) row
  pub is : request ≡ search_for row

-- a Create carries an image, and nothing else is asked
abbrev pub AskedTrulyAt : Keeps → History → List Entry → Request → Type 0
AskedTrulyAt keeps history es (Create content) = IsImage history es (content_name content) content
AskedTrulyAt keeps history es (Retrieve kind id if_match if_none_match) = ⊥
AskedTrulyAt keeps history es (Search kind wanted start count) = Sought history (Search kind wanted start count)
AskedTrulyAt keeps history es (Replace id content if_match if_none_match) =
    OverwritesAt keeps history es id content if_match

abbrev pub AskedTruly : History → List Entry → Request → Type 0
AskedTruly history es request = AskedTrulyAt Revisions history es request

-- an answer shows only versions that were there
abbrev pub ShowsTruly : List Entry → Answer → Type 0
ShowsTruly es answer = (i : ℕ) (s : ShownRecord) → IsAt (shown_in answer) i s → IsFact es s

-- where no revision is shown, a resource stands for a version that was there, or for one at no revision
pub record StandsFor (es : List Entry) (s : ShownRecord) : Type 0 where
  pub true_one : ShownRecord
  pub fact : IsFact es true_one
  pub stands : (s ≡ true_one) ⊎ (s ≡ shown_with (Some no_revision) true_one)

abbrev pub StandsAt : Keeps → List Entry → ShownRecord → Type 0
StandsAt Revisions es s = IsFact es s
StandsAt Versions es s = StandsFor es s

-- an answer stands only for versions that were there
abbrev pub RepliesTrulyAt : Keeps → List Entry → Request → Answer → Type 0
RepliesTrulyAt keeps es request answer = (i : ℕ) (s : ShownRecord) → IsAt (shown_in (heard keeps request answer)) i s
    → StandsAt keeps es s

abbrev pub ToldTrulyAt : Keeps → History → List Entry → Message → Type 0
ToldTrulyAt keeps history es (Asked request) = AskedTrulyAt keeps history es request
ToldTrulyAt keeps history es (Answered request answer) = RepliesTrulyAt keeps es request answer

abbrev pub ToldTruly : History → List Entry → Message → Type 0
ToldTruly history es message = ToldTrulyAt Revisions history es message

-- every message that was ever sent is true
abbrev pub AllToldAt : Keeps → History → List Entry → List Message → Type 0
AllToldAt keeps history es messages = (i : ℕ) (message : Message) → IsAt messages i message
    → ToldTrulyAt keeps history es message

abbrev pub AllTold : History → List Entry → List Message → Type 0
AllTold history es messages = AllToldAt Revisions history es messages

-- ---- which ids are known

-- the content is the image of an accepted row of the record, by the ids that the connector knows
pub record IsMade (history : History) (book : Book) (name : RecordName) (content : Content) : Type 0 where
  pub row : Row
  pub accepted : Has (rows_of history name) row
  pub image : image (known_id book) row ≡ Some content

-- so is each content that was ever asked for, and each of our records
pub record AllMade (ours : Names) (history : History) (es : List Entry) (book : Book)
    (messages : List Message) : Type 0 where
  pub asked : (request : Request) (content : Content) → Has messages (Asked request)
      → request_content request ≡ Some content → IsMade history book (content_name content) content
  pub held : (e : Entry) (content : Content) → Has es e → ours e.name ≡ true → Has (story e) content
      → IsMade history book e.name content

-- ---- the invariant and its laws

-- what is true of source, connector, provider and messages, if these records are ours
pub record InvariantAt (keeps : Keeps) (ours : Names) (w : World) : Type 0 where
  pub mine : AllOurs ours w.history
  pub rising : AllRise w.history
  pub follows : Follows w.book w.history
  pub kept : KeptAt keeps ours w.history w.entries
  pub noted : AllNotedAt keeps w.entries w.book
  pub told : AllToldAt keeps w.history w.entries w.messages
  pub made : AllMade ours w.history w.entries w.book w.messages

-- with a provider that keeps revisions
abbrev pub InvariantOf : Names → World → Type 0
InvariantOf ours w = InvariantAt Revisions ours w

-- Invariant: what is true of them if every record is ours
abbrev pub Invariant : World → Type 0
Invariant w = InvariantOf all_names w

-- Every event keeps it
abbrev pub EventsKeepIt : Type 0
EventsKeepIt = (w : World) (event : Event) → Invariant w → Invariant (happens w event)

-- so it does with each kind of provider
abbrev pub EventsKeepItAt : Type 0
EventsKeepItAt = (keeps : Keeps) (w : World) (event : Event) → InvariantAt keeps all_names w
    → InvariantAt keeps all_names (happens_at keeps w event)

-- it is true after every run
abbrev pub AlwaysKept : Type 0
AlwaysKept = (events : List Event) → Invariant (run empty events)

-- a message that was sent is still there after any events, and what it says is still true
pub record IsStillTrue (w : World) (message : Message) : Type 0 where
  pub sent : Has w.messages message
  pub told : ToldTruly w.history w.entries message

abbrev pub FactsStay : Type 0
FactsStay = (w : World) (events : List Event) (message : Message) → Invariant w → Has w.messages message
    → IsStillTrue (run w events) message
