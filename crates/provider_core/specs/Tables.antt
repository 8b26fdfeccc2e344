-- Laws of the provider's table of whole stories: how an entry is found, what a request writes, and what an answer
-- shows.
use Rattle.std.specs.Prelude.{◌≡◌, ℕ, suc, ◌<◌, Bool, true, List, [], ◌∷◌, ◌++◌, Option, Some, None, length, slice_get}
use Rattle.std.specs.List.{find}
use Rattle.std.specs.Option.{option_map}
use Rattle.scim_key.specs.Identifiers.{id_text}
use Rattle.scim_key.specs.declared.records.RecordName.{RecordName}
use Rattle.scim_version.specs.Tags.{version_tag}
use Rattle.scim_version.specs.Conditions.{holds_match}
use Rattle.scim_version.specs.declared.conditions.Condition.{Condition}
use Rattle.scim_resource.specs.declared.contents.Content.{Content}
use Rattle.scim_resource.specs.Contents.{content_name}
use Rattle.scim_resource.specs.Rows.{ShownRecord, last_version}
use Rattle.scim_message.specs.declared.messages.Request.{Request}
use Rattle.scim_message.specs.declared.messages.Request.TheVariants.{Create, Replace}
use Rattle.scim_message.specs.declared.messages.Answer.{Answer}
use Rattle.scim_message.specs.declared.messages.Answer.TheVariants.{Created, Found, Replaced, NotModified, Error}
use Rattle.scim_message.specs.declared.messages.Answer.TheVariants as answers
use Rattle.provider_core.specs.Rows.{row_named}
use Rattle.provider_core.specs.Stories.{Entry, story, is_entry_of, first_entry, renew_at, row_of, rows_of, Numbered, numbered_from, step, GoesOn, AllGoOn}

-- ---- how the entry of a record is found

abbrev pub is_numbered_of : RecordName → Numbered → Bool
is_numbered_of name n = is_entry_of name n.entry

-- the entry of a record, with the number that makes its id
abbrev pub entry_named : RecordName → List Entry → Option Numbered
entry_named name es = find (is_numbered_of name) (numbered_from 1 es)

-- a table: every content of a story is of its entry's record, and no two entries are of the same record
pub record IsWholeTable (es : List Entry) : Type 0 where
  pub named : (i j : ℕ) (e : Entry) (c : Content) → slice_get es i ≡ Some e
      → slice_get (story e) j ≡ Some c → content_name c ≡ e.name
  pub distinct : (i j : ℕ) (d e : Entry) → slice_get es i ≡ Some d → slice_get es j ≡ Some e → d.name ≡ e.name → i ≡ j

-- after every request, the table is still whole
abbrev pub TablesStayWhole : Type 0
TablesStayWhole = (es : List Entry) (request : Request) → IsWholeTable es → IsWholeTable (step es request).entries

-- the row of a record is the row of its entry
abbrev pub FoundByName : Type 0
FoundByName = (name : RecordName) (es : List Entry) → IsWholeTable es
    → row_named name (rows_of es) ≡ option_map (λ n. row_of n.number n.entry) (entry_named name es)

-- the entry that is found is of this record, and the entry of this record is found
pub record FindsByName (name : RecordName) (es : List Entry) : Type 0 where
  pub found : (n : Numbered) → entry_named name es ≡ Some n → (i : ℕ) × (n.number ≡ suc i)
      × (slice_get es i ≡ Some n.entry) × (n.entry.name ≡ name)
  pub here : (i : ℕ) (e : Entry) → slice_get es i ≡ Some e → e.name ≡ name
      → entry_named name es ≡ Some (record { number = suc i; entry = e })

abbrev pub EntriesAreFound : Type 0
EntriesAreFound = (name : RecordName) (es : List Entry) → IsWholeTable es → FindsByName name es

-- ---- what a request writes

-- nothing, the first content under a free name, or the next content of a story, if the condition holds for its version
pub data Writes : List Entry → Request → List Entry → Type 0 where
  nothing : {es : List Entry} {r : Request} → Writes es r es
  created : {es : List Entry} (content : Content) → entry_named (content_name content) es ≡ None
      → Writes es (Create content) (es ++ first_entry content ∷ [])
  replaced : {es : List Entry} (i : ℕ) (e : Entry) (content : Content) (m n : Condition)
      → slice_get es i ≡ Some e → e.name ≡ content_name content
      → length (story e) < last_version → holds_match m (Some (length (story e))) ≡ true
      → Writes es (Replace (id_text (suc i)) content m n) (renew_at i content es)

abbrev pub StepsWrite : Type 0
StepsWrite = (es : List Entry) (request : Request) → Writes es request (step es request).entries

-- ---- what an answer shows

-- a content in the story of the entry with this id, with the tag of its version
pub record IsFact (es : List Entry) (s : ShownRecord) : Type 0 where
  pub place : ℕ
  pub turn : ℕ
  pub entry : Entry
  pub here : slice_get es place ≡ Some entry
  pub held : slice_get (story entry) turn ≡ Some s.content
  pub id : s.id ≡ id_text (suc place)
  pub version : s.version ≡ Some (version_tag (suc turn))

abbrev pub shown_in : Answer → List ShownRecord
shown_in (Created s) = s ∷ []
shown_in (Found s) = s ∷ []
shown_in (Replaced s) = s ∷ []
shown_in (answers.List list) = list.resources
shown_in (NotModified kind id version) = []
shown_in (Error e) = []

abbrev pub ShowsFacts : Type 0
ShowsFacts = (es : List Entry) (request : Request) (i : ℕ) (s : ShownRecord)
    → slice_get (shown_in (step es request).answer) i ≡ Some s → IsFact (step es request).entries s

-- ---- entries that go on

-- if all entries go on, the entry at each place does
abbrev pub GoOnAt : Type 0
GoOnAt = (es fs : List Entry) (i : ℕ) (e : Entry) → AllGoOn es fs → slice_get es i ≡ Some e
    → (f : Entry) × (slice_get fs i ≡ Some f) × GoesOn e f

-- all entries go on if nothing changes
abbrev pub GoOnStaying : Type 0
GoOnStaying = (es : List Entry) → AllGoOn es es

-- all entries go on over two steps
abbrev pub GoOnFurther : Type 0
GoOnFurther = (es fs gs : List Entry) → AllGoOn es fs → AllGoOn fs gs → AllGoOn es gs
