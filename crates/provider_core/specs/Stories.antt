-- The provider's table with the whole story of each resource: all contents that it ever held.
use Rattle.std.specs.Prelude.{◌≡◌, ℕ, zero, suc, ◌-◌, ◌&&◌, Bool, true, false, List, [], ◌∷◌, ◌++◌, Option, Some, None, map, length, nat_le, if◌then◌else◌}
use Rattle.std.specs.List.{find, filter, AllByRecursion}
use Rattle.std.specs.Str.{bytes_eq}
use Rattle.scim_key.specs.Identifiers.{id_text}
use Rattle.scim_key.specs.declared.records.Kind.{Kind}
use Rattle.scim_key.specs.declared.records.RecordName.{RecordName}
use Rattle.scim_version.specs.Tags.{version_tag}
use Rattle.scim_version.specs.Conditions.{holds_match, holds_none_match}
use Rattle.scim_version.specs.declared.conditions.Condition.{Condition}
use Rattle.scim_resource.specs.declared.contents.Content.{Content}
use Rattle.scim_resource.specs.Contents.{content_kind, content_name}
use Rattle.scim_resource.specs.Rows.{StoredRecord, ShownRecord, shown, last_version}
use Rattle.scim_filter.specs.Expressions.{Expression}
use Rattle.scim_message.specs.declared.messages.Request.{Request}
use Rattle.scim_message.specs.declared.messages.Request.TheVariants.{Create, Retrieve, Search, Replace}
use Rattle.scim_message.specs.declared.messages.Answer.{Answer}
use Rattle.scim_message.specs.declared.messages.Answer.TheVariants.{Created, Found, Replaced, NotModified, Error}
use Rattle.scim_message.specs.declared.messages.Answer.TheVariants as answers
use Rattle.scim_message.specs.declared.refusals.Refusal.{Refusal}
use Rattle.scim_message.specs.declared.refusals.Refusal.TheVariants.{NameTaken, LimitReached, NoSuchResource, NameFixed, OtherVersion}
use Rattle.scim_message.specs.Refusals.{error_of}
use Rattle.provider_core.specs.Rows.{same_kind, same_name}
use Rattle.provider_core.specs.Searches.{is_wanted, listing}
use Rattle.provider_core.specs.Outcomes.{outcome, changed_rows, most_resources}

-- A record's entry: the contents that it held before, in order, and the one that it holds. Together they are its story,
-- which is never empty
pub record Entry : Type 0 where
  pub name : RecordName
  pub earlier : List Content
  pub held : Content

abbrev pub story : Entry → List Content
story e = e.earlier ++ e.held ∷ []

-- the entry of a new resource
abbrev pub first_entry : Content → Entry
first_entry content = record { name = content_name content; earlier = []; held = content }

-- the entry after its story goes on with this content
abbrev pub renewed : Entry → Content → Entry
renewed e content = record { name = e.name; earlier = story e; held = content }

-- an entry's row: its number is its place, and its version is the length of its story
abbrev pub row_of : ℕ → Entry → StoredRecord
row_of number e = record { number = number; version = suc (length e.earlier); content = e.held }

abbrev pub rows_from : ℕ → List Entry → List StoredRecord
rows_from number [] = []
rows_from number (e ∷ es) = row_of number e ∷ rows_from (suc number) es

abbrev pub rows_of : List Entry → List StoredRecord
rows_of es = rows_from 1 es

-- ---- how an entry is found

-- whether an entry is of this record
abbrev pub is_entry_of : RecordName → Entry → Bool
is_entry_of name e = same_name name e.name

-- an entry with its number
pub record Numbered : Type 0 where
  pub number : ℕ
  pub entry : Entry

abbrev pub numbered_from : ℕ → List Entry → List Numbered
numbered_from number [] = []
numbered_from number (e ∷ es) = record { number = number; entry = e } ∷ numbered_from (suc number) es

abbrev pub has_entry_id : List ℕ → Numbered → Bool
has_entry_id id n = bytes_eq id (id_text n.number)

abbrev pub if_entry_of_kind : Kind → Option Numbered → Option Numbered
if_entry_of_kind kind None = None
if_entry_of_kind kind (Some n) = if same_kind kind n.entry.name.kind then Some n else None

-- the entry of this type with this id, if there is one
abbrev pub entry_with_id : Kind → List ℕ → List Entry → Option Numbered
entry_with_id kind id es = if_entry_of_kind kind (find (has_entry_id id) (numbered_from 1 es))

-- the entries after the story at this place, counted from 0, goes on with this content
abbrev pub renew_at : ℕ → Content → List Entry → List Entry
renew_at place content [] = []
renew_at zero content (e ∷ es) = renewed e content ∷ es
renew_at (suc place) content (e ∷ es) = e ∷ renew_at place content es

-- the entries of this type that a filter finds, as they are shown, in order
abbrev pub is_entry_hit : Kind → Option Expression → Numbered → Bool
is_entry_hit kind wanted n = same_kind kind n.entry.name.kind && is_wanted wanted (row_of n.number n.entry)

abbrev pub found_entries : Kind → Option Expression → List Entry → List ShownRecord
found_entries kind wanted es =
    map (λ n. shown (row_of n.number n.entry)) (filter (is_entry_hit kind wanted) (numbered_from 1 es))

-- ---- what a request does

-- the table after a request, and the answer
pub record Step : Type 0 where
  pub entries : List Entry
  pub answer : Answer

-- the table stays
abbrev pub replied_on : List Entry → Answer → Step
replied_on es answer = record { entries = es; answer = answer }

abbrev pub refused_on : List Entry → Refusal → Step
refused_on es refusal = replied_on es (Error (error_of refusal))

abbrev pub creating_entry : (taken : Option Entry) → (full : Bool) → List Entry → Content → Step
creating_entry (Some e) full es content = refused_on es NameTaken
creating_entry None true es content = refused_on es LimitReached
creating_entry None false es content =
    record {
      entries = es ++ first_entry content ∷ [];
      answer = Created (shown (row_of (suc (length es)) (first_entry content)));
    }

-- by whether the name stays the same, the story has its greatest length, and both conditions hold
abbrev pub writing_entry : (keeps_name : Bool) → (at_last : Bool) → (holds : Bool) → Numbered
    → List Entry → Content → Step
writing_entry false at_last holds n es content = refused_on es NameFixed
writing_entry true true holds n es content = refused_on es LimitReached
writing_entry true false false n es content = refused_on es OtherVersion
writing_entry true false true n es content =
    record {
      entries = renew_at (n.number - 1) content es;
      answer = Replaced (shown (row_of n.number (renewed n.entry content)));
    }

abbrev pub replacing_entry : Option Numbered → List Entry → Content → Condition → Condition → Step
replacing_entry None es content if_match if_none_match = refused_on es NoSuchResource
replacing_entry (Some n) es content if_match if_none_match =
    writing_entry (same_name n.entry.name (content_name content)) (nat_le last_version (length (story n.entry)))
    (holds_match if_match (Some (length (story n.entry))) && holds_none_match if_none_match
    (Some (length (story n.entry)))) n es content

-- by whether `If-Match` and `If-None-Match` hold
abbrev pub reading_entry : (matches : Bool) → (fresh : Bool) → Numbered → List Entry → Step
reading_entry false fresh n es = refused_on es OtherVersion
reading_entry true false n es =
    replied_on es (NotModified n.entry.name.kind (id_text n.number) (version_tag (length (story n.entry))))
reading_entry true true n es = replied_on es (Found (shown (row_of n.number n.entry)))

abbrev pub retrieving_entry : Option Numbered → List Entry → Condition → Condition → Step
retrieving_entry None es if_match if_none_match = refused_on es NoSuchResource
retrieving_entry (Some n) es if_match if_none_match =
    reading_entry (holds_match if_match (Some (length (story n.entry))))
    (holds_none_match if_none_match (Some (length (story n.entry)))) n es

-- What the provider does for a request, given its entries
abbrev pub step : List Entry → Request → Step
step es (Create content) =
    creating_entry (find (is_entry_of (content_name content)) es) (nat_le most_resources (length es)) es content
step es (Retrieve kind id if_match if_none_match) =
    retrieving_entry (entry_with_id kind id es) es if_match if_none_match
step es (Search kind wanted start count) =
    replied_on es (answers.List (listing start count (found_entries kind wanted es)))
step es (Replace id content if_match if_none_match) =
    replacing_entry (entry_with_id (content_kind content) id es) es content if_match if_none_match

-- ---- laws

-- each entry's contents are of its record
abbrev pub IsTable : List Entry → Type 0
IsTable es = AllByRecursion (λ e. content_name e.held ≡ e.name) es

-- On the rows of a table, the provider answers what the table answers, and the changed rows are the rows of the changed
-- table
pub record Agrees (es : List Entry) (request : Request) : Type 0 where
  pub answer : (outcome (rows_of es) request).answer ≡ (step es request).answer
  pub rows : changed_rows (rows_of es) (outcome (rows_of es) request).change ≡ rows_of (step es request).entries
  pub table : IsTable (step es request).entries

abbrev pub RowsFollowStories : Type 0
RowsFollowStories = (es : List Entry) (request : Request) → IsTable es → Agrees es request

-- an entry goes on: its name stays, and its story is a prefix of the later story
pub record GoesOn (e later : Entry) : Type 0 where
  pub name : later.name ≡ e.name
  pub more : List Content
  pub story : story later ≡ story e ++ more

-- every entry goes on at its place
abbrev pub AllGoOn : List Entry → List Entry → Type 0
AllGoOn [] later = Unit {0}
AllGoOn (e ∷ es) [] = ⊥
AllGoOn (e ∷ es) (f ∷ fs) = GoesOn e f × AllGoOn es fs

abbrev pub StoriesGrow : Type 0
StoriesGrow = (es : List Entry) (request : Request) → AllGoOn es (step es request).entries

-- the version of an entry's row is the length of its story
abbrev pub VersionsCount : Type 0
VersionsCount = (number : ℕ) (e : Entry) → (row_of number e).version ≡ length (story e)
