-- What holds after each event, and what holds from each moment to each later one.
use Rattle.std.specs.Prelude.{◌≡◌, ◌≢◌, ℕ, suc, ◌<◌, Bool, false, true, not, List, ◌++◌, Option, Some}
use Rattle.std.specs.List.{slice_get}
use Rattle.std.specs.Option.{option_map}
use Rattle.scim_key.specs.Identifiers.{id_text}
use Rattle.scim_key.specs.Revisions.{RevisionValue, no_revision, ◌≺◌, ◌≼◌}
use Rattle.scim_key.specs.declared.records.Kind.TheVariants as kinds
use Rattle.scim_key.specs.declared.records.RecordName.{RecordName}
use Rattle.scim_version.specs.Tags.{version_tag}
use Rattle.scim_resource.specs.Contents.{content_name}
use Rattle.scim_resource.specs.Rows.{StoredRecord}
use Rattle.scim_resource.specs.declared.contents.Content.{Content}
use Rattle.scim_resource.specs.declared.contents.Content.TheVariants as contents
use Rattle.provider_core.specs.Stories.{Entry, story, rows_of as rows_of_entries, AllGoOn}
use Rattle.provider_core.specs.Tables.{entry_named}
use Rattle.source_csv.specs.Records.{row_revision}
use Rattle.source_csv.specs.declared.rows.Row.{Row}
use Rattle.source_csv.specs.declared.rows.Row.TheVariants.{User, Group}
use Rattle.mapping.specs.Images.{image}
use Rattle.connector_core.specs.History.{History, rows_of, last_row, Rises}
use Rattle.connector_core.specs.Book.{wanted_row}
use Rattle.connector_core.specs.Learning.{content_revision}
use Rattle.connector_core.specs.Changing.{judging_by_source}
use Rattle.connector_core.specs.declared.knowledge.Known.{Known}
use Rattle.connector_core.specs.declared.knowledge.Seen.{Seen}
use Rattle.connector_core.specs.declared.knowledge.Seen.TheVariants.{Unknown, Absent, At}
use Rattle.world_model.specs.World.{World, Event, empty, judged, run}

-- ---- words

-- x is at this place, from 0
abbrev pub IsAt : {X : Type 0} → List X → (place : ℕ) → X → Type 0
IsAt xs place x = slice_get xs place ≡ Some x

abbrev pub Has : {X : Type 0} → List X → X → Type 0
Has {X} xs x = (place : ℕ) × IsAt xs place x

abbrev pub IsPrefixOf : {X : Type 0} → List X → List X → Type 0
IsPrefixOf {X} xs ys = (more : List X) × (ys ≡ xs ++ more)

-- the id of the record's entry, if it has one
abbrev pub id_in : List Entry → RecordName → Option (List ℕ)
id_in es name = option_map (λ n. id_text n.number) (entry_named name es)

-- the entry of the record is this one
abbrev pub IsEntryOf : List Entry → RecordName → Entry → Type 0
IsEntryOf es name e = Has es e × (e.name ≡ name)

-- what the provider holds, as rows
abbrev pub rows : World → List StoredRecord
rows w = rows_of_entries w.entries

-- the content has this revision or a later one
abbrev pub HasReached : RevisionValue → Content → Type 0
HasReached revision content = (held : RevisionValue) × (content_revision content ≡ Some held) × (revision ≼ held)

-- the content is the image of the record's row at its revision
pub record IsImage (history : History) (es : List Entry) (name : RecordName) (content : Content) : Type 0 where
  pub row : Row
  pub accepted : Has (rows_of history name) row
  pub revision : content_revision content ≡ Some (row_revision row)
  pub image : image (id_in es) row ≡ Some content

-- revisions strictly rise along a story
abbrev pub StoryRises : List Content → Type 0
StoryRises contents = (i j : ℕ) (earlier later : Content) (r s : RevisionValue) → i < j
    → IsAt contents i earlier → IsAt contents j later
    → content_revision earlier ≡ Some r → content_revision later ≡ Some s → r ≺ s

-- the row says that the user left
abbrev pub is_leaver : Row → Bool
is_leaver (User row) = not row.active
is_leaver (Group row) = false

-- the User is inactive
abbrev pub is_inactive : Content → Bool
is_inactive (contents.User u) = not u.active
is_inactive (contents.Group g) = false

-- the record's row at this revision and every later row say that the user left
abbrev pub HasLeftSince : History → RecordName → RevisionValue → Type 0
HasLeftSince history name revision = (row : Row) → Has (rows_of history name) row
    → revision ≼ row_revision row → is_leaver row ≡ true

-- ---- at each moment

-- the record's entry has this id, and the tag is that of one of its versions, whose content has this revision
pub record IsVersion (es : List Entry) (name : RecordName) (id tag : List ℕ) (revision : RevisionValue) : Type 0 where
  pub place : ℕ
  pub turn : ℕ
  pub entry : Entry
  pub content : Content
  pub here : IsAt es place entry
  pub of_record : entry.name ≡ name
  pub held : IsAt (story entry) turn content
  pub has_id : id ≡ id_text (suc place)
  pub has_tag : tag ≡ version_tag (suc turn)
  pub at_revision : content_revision content ≡ Some revision

abbrev pub SeenTruly : List Entry → RecordName → Seen → Type 0
SeenTruly es name Unknown = Unit {0}
SeenTruly es name Absent = Unit {0}
SeenTruly es name (At id tag revision) = IsVersion es name id tag revision

-- the record has an entry with this id, which holds this revision or a later one
pub record IsReached (es : List Entry) (name : RecordName) (id : Option (List ℕ))
    (revision : RevisionValue) : Type 0 where
  pub entry : Entry
  pub of_record : IsEntryOf es name entry
  pub has_id : id ≡ id_in es name
  pub reached : HasReached revision entry.held

-- what the connector knows about a record is true
pub record KnownTruly (es : List Entry) (name : RecordName) (known : Known) : Type 0 where
  pub id : (id : List ℕ) → known.id ≡ Some id → id_in es name ≡ Some id
  pub confirmed : known.confirmed ≢ no_revision → IsReached es name known.id known.confirmed
  pub within : known.confirmed ≼ row_revision known.wanted
  pub seen : SeenTruly es name known.seen

-- Safe
pub record Safe (w : World) : Type 0 where
  -- the rows of each record strictly rise
  pub rows_rise : (name : RecordName) → Rises (rows_of w.history name)
  -- no two entries are of the same record
  pub one_each : (i j : ℕ) (d e : Entry) → IsAt w.entries i d → IsAt w.entries j e → d.name ≡ e.name → i ≡ j
  -- revisions strictly rise along each story, and each content is the image of its row
  pub stories_rise : (e : Entry) → Has w.entries e → StoryRises (story e)
  pub images : (e : Entry) (content : Content) → Has w.entries e → Has (story e) content
      → IsImage w.history w.entries e.name content
  -- the wanted row is the last row of its record, and a record that isn't in the book has no row
  pub wanted : (name : RecordName) → wanted_row w.book name ≡ last_row w.history name
  -- a known id is the entry's, what counts as confirmed is held or surpassed, and a tag that was seen is that of a
  -- version
  pub known : (name : RecordName) (known : Known) → w.book name ≡ Some known → KnownTruly w.entries name known
  -- if a user's row at the confirmed revision and every later row say that the user left, the User that the provider
  -- holds is inactive
  pub leavers : (name : RecordName) (known : Known) (e : Entry) → name.kind ≡ kinds.User
      → w.book name ≡ Some known → IsEntryOf w.entries name e
      → HasLeftSince w.history name known.confirmed → is_inactive e.held ≡ true

-- ---- from each moment on

-- Onward: nothing that was accepted, held or sent is lost or changed, and no confirmed revision falls
pub record Onward (early late : World) : Type 0 where
  pub rows : (name : RecordName) → IsPrefixOf (rows_of early.history name) (rows_of late.history name)
  pub stories : AllGoOn early.entries late.entries
  pub messages : IsPrefixOf early.messages late.messages
  pub confirmed : (name : RecordName) (known : Known) → early.book name ≡ Some known
      → (after : Known) × (late.book name ≡ Some after) × (known.confirmed ≼ after.confirmed)

-- ---- the headline, on what the provider holds

-- the same resource, at the same revision or a later one
pub record IsLater (s t : StoredRecord) : Type 0 where
  pub number : t.number ≡ s.number
  pub name : content_name t.content ≡ content_name s.content
  pub earlier : RevisionValue
  pub at_revision : content_revision s.content ≡ Some earlier
  pub reached : HasReached earlier t.content

-- Headline: the provider holds at most one resource per name, it is the image of its revision, its revision never goes
-- back, and every revision that the connector counts as confirmed is held or surpassed
pub record Headline (early late : World) : Type 0 where
  pub one_per_name : (s t : StoredRecord) → Has (rows early) s → Has (rows early) t
      → content_name s.content ≡ content_name t.content → s.number ≡ t.number
  pub its_image : (s : StoredRecord) → Has (rows early) s
      → IsImage early.history early.entries (content_name s.content) s.content
  pub never_back : (s : StoredRecord) → Has (rows early) s → (t : StoredRecord) × Has (rows late) t × IsLater s t
  pub reached : (name : RecordName) (known : Known) → early.book name ≡ Some known → known.confirmed ≢ no_revision
      → (s : StoredRecord) × Has (rows early) s × (content_name s.content ≡ name)
      × (known.id ≡ Some (id_text s.number)) × HasReached known.confirmed s.content

-- ---- the laws of all runs

abbrev pub AlwaysSafe : Type 0
AlwaysSafe = (events : List Event) → Safe (run empty events)

abbrev pub AlwaysOnward : Type 0
AlwaysOnward = (early late : List Event) → Onward (run empty early) (run empty (early ++ late))

abbrev pub HeadlineHolds : Type 0
HeadlineHolds = (early late : List Event) → Headline (run empty early) (run empty (early ++ late))

-- the book judges each row as the history alone does
abbrev pub JudgesBySource : Type 0
JudgesBySource = (events : List Event) (row : Row)
    → judged (run empty events) row ≡ judging_by_source (run empty events).history row
