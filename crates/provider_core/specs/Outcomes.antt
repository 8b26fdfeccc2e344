-- What the provider answers to a request, and how its rows change.
use Rattle.std.specs.Prelude.{◌≡◌, ℕ, suc, ◌&&◌, Bool, true, false, List, [], ◌∷◌, ◌++◌, Option, Some, None, length, nat_le}
use Rattle.scim_key.specs.Identifiers.{id_text}
use Rattle.scim_version.specs.Tags.{version_tag}
use Rattle.scim_version.specs.Conditions.{holds_match, holds_none_match}
use Rattle.scim_version.specs.declared.conditions.Condition.{Condition}
use Rattle.scim_resource.specs.declared.contents.Content.{Content}
use Rattle.scim_resource.specs.Contents.{content_kind, content_name}
use Rattle.scim_resource.specs.Rows.{StoredRecord, shown, last_version}
use Rattle.scim_message.specs.declared.messages.Request.{Request}
use Rattle.scim_message.specs.declared.messages.Request.TheVariants.{Create, Retrieve, Search, Replace}
use Rattle.scim_message.specs.declared.messages.Answer.{Answer}
use Rattle.scim_message.specs.declared.messages.Answer.TheVariants.{Created, Found, Replaced, NotModified, Error}
use Rattle.scim_message.specs.declared.messages.Answer.TheVariants as answers
use Rattle.scim_message.specs.declared.refusals.Refusal.{Refusal}
use Rattle.scim_message.specs.declared.refusals.Refusal.TheVariants.{NameTaken, LimitReached, NoSuchResource, NameFixed, OtherVersion}
use Rattle.scim_message.specs.Refusals.{error_of}
use Rattle.provider_core.specs.Rows.{same_name, row_named, resource, with_row}
use Rattle.provider_core.specs.Searches.{found, listing}
use Rattle.provider_core.specs.declared.outcomes.TheConstants.{MOST_RESOURCES}
use Rattle.provider_core.specs.declared.pending.Change.{Change}
use Rattle.provider_core.specs.declared.pending.Change.TheVariants.{Unchanged, Insert, Update}

-- what a request does to the rows, and what is answered
pub record Outcome : Type 0 where
  pub change : Change
  pub answer : Answer

-- the most resources that a provider holds
abbrev pub most_resources : ℕ
most_resources = MOST_RESOURCES

-- nothing changes
abbrev pub replied : Answer → Outcome
replied answer = record { change = Unchanged; answer = answer }

abbrev pub refused : Refusal → Outcome
refused refusal = replied (Error (error_of refusal))

-- ---- Create

-- the row of a new resource, after `count` others
abbrev pub first_row : ℕ → Content → StoredRecord
first_row count content = record { number = suc count; version = 1; content = content }

-- by the row with this name, if there is one, and by whether the provider is full
abbrev pub creating : (taken : Option StoredRecord) → (full : Bool) → (count : ℕ) → Content → Outcome
creating (Some row) full count content = refused NameTaken
creating None true count content = refused LimitReached
creating None false count content =
    record { change = Insert (first_row count content); answer = Created (shown (first_row count content)) }

-- ---- Replace

-- the row after a replacement
abbrev pub next_row : StoredRecord → Content → StoredRecord
next_row row content = record { number = row.number; version = suc row.version; content = content }

-- by whether the name stays the same, the version is the last, and both conditions hold
abbrev pub writing : (keeps_name : Bool) → (at_last : Bool) → (holds : Bool) → StoredRecord → Content → Outcome
writing false at_last holds row content = refused NameFixed
writing true true holds row content = refused LimitReached
writing true false false row content = refused OtherVersion
writing true false true row content =
    record { change = Update (next_row row content); answer = Replaced (shown (next_row row content)) }

-- by the resource, if there is one
abbrev pub replacing : Option StoredRecord → Content → Condition → Condition → Outcome
replacing None content if_match if_none_match = refused NoSuchResource
replacing (Some row) content if_match if_none_match =
    writing (same_name (content_name row.content) (content_name content)) (nat_le last_version row.version)
    (holds_match if_match (Some row.version) && holds_none_match if_none_match (Some row.version)) row content

-- ---- Retrieve

abbrev pub not_modified : StoredRecord → Answer
not_modified row = NotModified (content_kind row.content) (id_text row.number) (version_tag row.version)

-- by whether `If-Match` and `If-None-Match` hold
abbrev pub reading : (matches : Bool) → (fresh : Bool) → StoredRecord → Outcome
reading false fresh row = refused OtherVersion
reading true false row = replied (not_modified row)
reading true true row = replied (Found (shown row))

-- by the resource, if there is one
abbrev pub retrieving : Option StoredRecord → Condition → Condition → Outcome
retrieving None if_match if_none_match = refused NoSuchResource
retrieving (Some row) if_match if_none_match =
    reading (holds_match if_match (Some row.version)) (holds_none_match if_none_match (Some row.version)) row

-- ---- all requests

-- What the provider does for a request, given its rows
abbrev pub outcome : List StoredRecord → Request → Outcome
outcome rows (Create content) =
    creating (row_named (content_name content) rows) (nat_le most_resources (length rows)) (length rows) content
outcome rows (Retrieve kind id if_match if_none_match) = retrieving (resource kind id rows) if_match if_none_match
outcome rows (Search kind wanted start count) = replied (answers.List (listing start count (found kind wanted rows)))
outcome rows (Replace id content if_match if_none_match) =
    replacing (resource (content_kind content) id rows) content if_match if_none_match

-- the rows after a change
abbrev pub changed_rows : List StoredRecord → Change → List StoredRecord
changed_rows rows Unchanged = rows
changed_rows rows (Insert row) = rows ++ row ∷ []
changed_rows rows (Update row) = with_row row rows

-- the change of some request on these rows
pub record IsChange (rows : List StoredRecord) (change : Change) : Type 0 where
  pub request : Request
  pub is : change ≡ (outcome rows request).change

-- an outcome of some request on these rows
pub record IsOutcome (rows : List StoredRecord) (result : Outcome) : Type 0 where
  pub request : Request
  pub is : result ≡ outcome rows request
