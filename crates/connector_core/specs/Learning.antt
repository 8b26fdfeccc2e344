-- What the connector learns from an answer, or the first refusal that applies.
use Rattle.std.specs.Prelude.{ℕ, Bool, true, false, not, ◌==◌, List, [], ◌∷◌, Option, Some, None, Result, Ok, Err, if◌then◌else◌}
use Rattle.std.specs.Option.{option_and_then}
use Rattle.std.specs.Str.{bytes_eq}
use Rattle.scim_key.specs.Outcome.{◌>>=◌}
use Rattle.scim_key.specs.Revisions.{RevisionValue, before, later, no_revision}
use Rattle.scim_key.specs.declared.records.Kind.{Kind}
use Rattle.scim_key.specs.declared.records.RecordName.{RecordName}
use Rattle.scim_resource.specs.declared.contents.Content.{Content}
use Rattle.scim_version.specs.declared.conditions.Condition.{Condition}
use Rattle.scim_version.specs.declared.conditions.Condition.TheVariants.{Always, AnyTag, Tags}
use Rattle.scim_resource.specs.Contents.{content_name}
pub use Rattle.scim_resource.specs.Contents.{content_revision}
use Rattle.scim_resource.specs.Rows.{ShownRecord}
use Rattle.scim_filter.specs.Expressions.{Expression}
use Rattle.scim_filter.specs.Names.{single_key}
use Rattle.scim_message.specs.declared.messages.Request.{Request}
use Rattle.scim_message.specs.declared.messages.Request.TheVariants.{Create, Retrieve, Search, Replace}
use Rattle.scim_message.specs.declared.messages.Answer.{Answer}
use Rattle.scim_message.specs.declared.messages.Answer.TheVariants.{Created, Found, Replaced, NotModified, Error}
use Rattle.scim_message.specs.declared.messages.Answer.TheVariants as answers
use Rattle.source_csv.specs.Records.{row_revision}
use Rattle.mapping.specs.Images.{imaged}
use Rattle.mapping.specs.declared.groups.ImageFault.{ImageFault}
use Rattle.comparing.specs.Aspects.{is_same}
use Rattle.connector_core.specs.History.{same_kind, same_name}
use Rattle.connector_core.specs.Book.{Book, put, forgotten, known_id, learning, seeing}
use Rattle.connector_core.specs.declared.knowledge.Known.{Known}
use Rattle.connector_core.specs.declared.knowledge.Seen.{Seen}
use Rattle.connector_core.specs.declared.knowledge.Seen.TheVariants.{Unknown, Absent, At}
use Rattle.connector_core.specs.declared.learning.Learnt.{Learnt}
use Rattle.connector_core.specs.declared.learning.Learnt.TheVariants as learnt
use Rattle.connector_core.specs.declared.learning.LearnFault.{LearnFault}
use Rattle.connector_core.specs.declared.learning.LearnFault.TheVariants.{Unfit, Unversioned, Refused, NoSuchRecord}

-- the value, or a fault if there is none
abbrev pub or_fault : {A : Type 0} → LearnFault → Option A → Result A LearnFault
or_fault fault (Some x) = Ok x
or_fault fault None = Err fault

abbrev pub fault_unless : LearnFault → Bool → Result Bool LearnFault
fault_unless fault true = Ok true
fault_unless fault false = Err fault

-- ---- which record a request is about

abbrev pub if_of_kind : Kind → RecordName → Option RecordName
if_of_kind kind name = if same_kind kind name.kind then Some name else None

-- the only record that a filter of this type names
abbrev pub named_alone : Kind → Option Expression → Option RecordName
named_alone kind wanted = option_and_then (if_of_kind kind) (option_and_then single_key wanted)

-- the record of the content, or the one of its own type that is searched for by a valid name
abbrev pub subject : Request → Option RecordName
subject (Create content) = Some (content_name content)
subject (Retrieve kind id if_match if_none_match) = None
subject (Search kind wanted start count) = named_alone kind wanted
subject (Replace id content if_match if_none_match) = Some (content_name content)

-- ---- what an answer says

-- a resource; no resource; a name that is taken; or a resource with another version
pub data Finding : Type 0 where
  Shows : (resource : ShownRecord) → Finding
  Shows_none : Finding
  Taken : Finding
  Stale : (if_match : Condition) → Finding

-- a list shows the one resource that was found, or that none was found
abbrev pub listed : (total : ℕ) → List ShownRecord → Result Finding LearnFault
listed total [] = if total == 0 then Ok Shows_none else Err Unfit
listed total (s ∷ []) = if total == 1 then Ok (Shows s) else Err Unfit
listed total (s ∷ other ∷ more) = Err Unfit

-- a refusal with the expected status says this
abbrev pub refused_by : (status : ℕ) → (expected : ℕ) → Finding → Result Finding LearnFault
refused_by status expected finding = if status == expected then Ok finding else Err (Refused status)

-- what an answer to a Create says
abbrev pub found_creating : Answer → Result Finding LearnFault
found_creating (Created s) = Ok (Shows s)
found_creating (Found s) = Err Unfit
found_creating (Replaced s) = Err Unfit
found_creating (answers.List list) = Err Unfit
found_creating (NotModified kind id version) = Err Unfit
found_creating (Error error) = refused_by error.status 409 Taken

-- what an answer to a Replace under this condition says
abbrev pub found_replacing : Condition → Answer → Result Finding LearnFault
found_replacing if_match (Created s) = Err Unfit
found_replacing if_match (Found s) = Err Unfit
found_replacing if_match (Replaced s) = Ok (Shows s)
found_replacing if_match (answers.List list) = Err Unfit
found_replacing if_match (NotModified kind id version) = Err Unfit
found_replacing if_match (Error error) = refused_by error.status 412 (Stale if_match)

-- what an answer to a Search says
abbrev pub found_searching : Answer → Result Finding LearnFault
found_searching (Created s) = Err Unfit
found_searching (Found s) = Err Unfit
found_searching (Replaced s) = Err Unfit
found_searching (answers.List list) = listed list.total list.resources
found_searching (NotModified kind id version) = Err Unfit
found_searching (Error error) = Err (Refused error.status)

-- What an answer to a request says
abbrev pub finding : Request → Answer → Result Finding LearnFault
finding (Create content) answer = found_creating answer
finding (Retrieve kind id if_match if_none_match) answer = Err Unfit
finding (Search kind wanted start count) answer = found_searching answer
finding (Replace id content if_match if_none_match) answer = found_replacing if_match answer

-- ---- whether a shown resource is the record's

-- any id fits if none is known
abbrev pub fits_id : (known : Option (List ℕ)) → (id : List ℕ) → Bool
fits_id None id = true
fits_id (Some known) id = bytes_eq known id

-- a resource that was seen, with its revision and its entity tag
pub record Sight : Type 0 where
  pub id : List ℕ
  pub revision : RevisionValue
  pub tag : List ℕ

-- A shown resource is the record's if it has its name, its known id, a revision that isn't above the wanted one, and a
-- tag
abbrev pub fit : RecordName → Known → ShownRecord → Result Sight LearnFault
fit name known s = do
  _ ← fault_unless Unfit (same_name name (content_name s.content))
  _ ← fault_unless Unfit (fits_id known.id s.id)
  revision ← or_fault Unfit (content_revision s.content)
  _ ← fault_unless Unfit (not (before (row_revision known.wanted) revision))
  tag ← or_fault Unversioned s.version
  Ok (record { id = s.id; revision = revision; tag = tag })

-- ---- what is learnt

-- what is known afterwards, and what was learnt
pub record Lesson : Type 0 where
  pub known : Known
  pub learnt : Learnt

abbrev pub nothing_new : Known → Lesson
nothing_new known = record { known = known; learnt = learnt.Nothing }

-- this was seen
abbrev pub seen_at : Sight → Seen
seen_at sight = At sight.id sight.tag sight.revision

-- a resource was seen: its revision is confirmed, unless a higher one is
abbrev pub sighted : Known → Sight → Lesson
sighted known sight = record {
  known = learning (later known.confirmed sight.revision) sight.id (seen_at sight) known;
  learnt = if before known.confirmed sight.revision then learnt.Confirmed sight.revision else learnt.Seen;
}

-- no resource was seen, so the provider has none
abbrev pub absent : Known → Lesson
absent known = record { known = seeing Absent known.is_doubted known; learnt = learnt.Absent }

-- no resource was seen: the provider has none, unless an id is known and isn't doubted
abbrev pub none_sighted : (id : Option (List ℕ)) → Known → Lesson
none_sighted None known = absent known
none_sighted (Some id) known = if known.is_doubted then absent known else nothing_new known

-- ---- what is learnt about a doubted record

-- the image of the row, if it has one, is this content; members may be in another order
abbrev pub is_image : Result Content ImageFault → Content → Bool
is_image (Ok image) content = is_same image content
is_image (Err fault) content = false

-- the content is what is wanted of the record
abbrev pub is_wanted : Book → Known → Content → Bool
is_wanted book known content = is_image (imaged (known_id book) known.wanted) content

abbrev pub or_no_revision : Option RevisionValue → RevisionValue
or_no_revision None = no_revision
or_no_revision (Some revision) = revision

-- the revision that a content shows; none if somebody took it out
abbrev pub shown_revision : Content → RevisionValue
shown_revision content = or_no_revision (content_revision content)

-- A resource that isn't as it is wanted may be replaced if it has the record's name, no revision above the wanted one,
-- and a tag. Its id may be another one than the known one
abbrev pub fit_differing : RecordName → Known → ShownRecord → Result Sight LearnFault
fit_differing name known s = do
  _ ← fault_unless Unfit (same_name name (content_name s.content))
  _ ← fault_unless Unfit (not (before (row_revision known.wanted) (shown_revision s.content)))
  tag ← or_fault Unversioned s.version
  Ok (record { id = s.id; revision = shown_revision s.content; tag = tag })

-- a resource was seen that isn't as it is wanted: nothing is confirmed by it, and the record stays in doubt
abbrev pub differing : Known → Sight → Lesson
differing known sight = record { known = seeing (seen_at sight) known.is_doubted known; learnt = learnt.Seen }

-- a resource was seen that is as it is wanted, at the wanted revision, under this tag
abbrev pub agreeing : Known → (id tag : List ℕ) → Lesson
agreeing known id tag = sighted known (record { id = id; revision = row_revision known.wanted; tag = tag })

-- what is learnt about a doubted record from a shown resource: whether it is as it is wanted decides
abbrev pub compared : (agrees : Bool) → RecordName → Known → ShownRecord → Result Lesson LearnFault
compared true name known s = (or_fault Unversioned s.version >>= λ tag. Ok (agreeing known s.id tag))
compared false name known s = (fit_differing name known s >>= λ sight. Ok (differing known sight))

-- what is learnt about a record from a shown resource
abbrev pub shown_lesson : Book → RecordName → Known → ShownRecord → Result Lesson LearnFault
shown_lesson book name known s = if known.is_doubted then compared (is_wanted book known s.content) name known s
    else (fit name known s >>= λ sight. Ok (sighted known sight))

-- ---- outdated sights

-- what was seen is forgotten, if the answer is about it
abbrev pub forgetting : (concerned : Bool) → Known → Lesson
forgetting true known = record { known = forgotten known; learnt = learnt.Forgotten }
forgetting false known = nothing_new known

abbrev pub is_absent : Seen → Bool
is_absent Unknown = false
is_absent Absent = true
is_absent (At id tag revision) = false

abbrev pub is_alone : List (List ℕ) → (tag : List ℕ) → Bool
is_alone [] tag = false
is_alone (t ∷ []) tag = bytes_eq t tag
is_alone (t ∷ other ∷ more) tag = false

-- whether the condition has only the tag that was seen
abbrev pub is_under_tag : Condition → (tag : List ℕ) → Bool
is_under_tag Always tag = false
is_under_tag AnyTag tag = false
is_under_tag (Tags tags) tag = is_alone tags tag

abbrev pub is_under : Condition → Seen → Bool
is_under if_match Unknown = false
is_under if_match Absent = false
is_under if_match (At id tag revision) = is_under_tag if_match tag

-- What is learnt about a record from what an answer says
abbrev pub lesson : Book → RecordName → Known → Finding → Result Lesson LearnFault
lesson book name known (Shows s) = shown_lesson book name known s
lesson book name known Shows_none = Ok (none_sighted known.id known)
lesson book name known Taken = Ok (forgetting (is_absent known.seen) known)
lesson book name known (Stale if_match) = Ok (forgetting (is_under if_match known.seen) known)

-- the book afterwards, and what was learnt
pub record Learning : Type 0 where
  pub book : Book
  pub learnt : Learnt

abbrev pub noted : Book → RecordName → Lesson → Learning
noted book name l = record { book = put book name l.known; learnt = l.learnt }

-- What the connector learns from the answer to a request
abbrev pub learn : Book → Request → Answer → Result Learning LearnFault
learn book request answer = do
  name ← or_fault Unfit (subject request)
  known ← or_fault NoSuchRecord (book name)
  said ← finding request answer
  l ← lesson book name known said
  Ok (noted book name l)

-- a refused answer changes nothing
abbrev pub after_learning : Book → Result Learning LearnFault → Book
after_learning book (Ok l) = l.book
after_learning book (Err fault) = book
