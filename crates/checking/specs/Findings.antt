-- What is asked about a record, and what the answer says of it.
use Rattle.std.specs.Prelude.{◌==◌, ◌&&◌, ℕ, Bool, true, false, not, List, [], ◌∷◌, Option, Some, None, Result, Ok, Err, if◌then◌else◌}
use Rattle.std.specs.Str.{bytes_eq}
use Rattle.scim_key.specs.Records.{same_name}
use Rattle.scim_key.specs.Revisions.{RevisionValue, before}
use Rattle.scim_key.specs.declared.records.RecordName.{RecordName}
use Rattle.scim_resource.specs.Contents.{content_name, content_revision, content_with}
use Rattle.scim_resource.specs.Rows.{ShownRecord}
use Rattle.scim_resource.specs.declared.contents.Content.{Content}
use Rattle.scim_message.specs.declared.messages.Answer.{Answer}
use Rattle.scim_message.specs.declared.messages.Answer.TheVariants as answers
use Rattle.scim_client.specs.declared.exchange.ExchangeFault.{ExchangeFault}
use Rattle.source_csv.specs.declared.rows.Row.{Row}
use Rattle.mapping.specs.Images.{imaged}
use Rattle.mapping.specs.declared.groups.ImageFault.{ImageFault}
use Rattle.mapping.specs.declared.groups.ImageFault.TheVariants.{MemberWithoutId, Memory}
use Rattle.connector_core.specs.Asking.{search_for}
use Rattle.connector_core.specs.Book.{Book, known_id, wanted_row}
use Rattle.connector_core.specs.Changing.{member_at}
use Rattle.connector_core.specs.declared.keeps.Keeps.{Keeps}
use Rattle.connector_core.specs.declared.keeps.Keeps.TheVariants.{Revisions, Versions}
use Rattle.provisioning.specs.declared.faults.RecordFault.TheVariants.{NoSuchRecord, Refused, Unanswered, Unfit}
use Rattle.comparing.specs.Aspects.{agree, is_same}
use Rattle.comparing.specs.declared.aspects.Aspect.TheVariants.{Active}
use Rattle.checking.specs.declared.beside.Beside.{Beside}
use Rattle.checking.specs.declared.findings.Finding.{Finding}
use Rattle.checking.specs.declared.findings.Finding.TheVariants.{Found, Above, Gone, Unchecked}
use Rattle.checking.specs.declared.looking.Hindrance.{Hindrance}
use Rattle.checking.specs.declared.looking.Hindrance.TheVariants.{Fault, Waits}
use Rattle.checking.specs.declared.looking.Look.{Look}

-- ---- what is asked

-- what is wanted of a provider's resource, which has no revision if the provider drops the source extension
abbrev pub wanted_at : Keeps → Content → Content
wanted_at Revisions content = content
wanted_at Versions content = content_with None content

-- by the image of the wanted row, or its first member without an id (the last case doesn't occur: no image runs out of
-- memory)
abbrev pub looking_with : Keeps → (known : Option (List ℕ)) → Row → Result Content ImageFault → Result Look Hindrance
looking_with keeps known row (Ok image) =
    Ok (record { request = search_for row; wanted = wanted_at keeps image; known = known })
looking_with keeps known row (Err (MemberWithoutId place)) = Err (Waits (member_at row place))
looking_with keeps known row (Err Memory) = Err (Fault Unfit)

abbrev pub looking_at : Keeps → (id_of : RecordName → Option (List ℕ)) → RecordName → Option Row
    → Result Look Hindrance
looking_at keeps id_of name None = Err (Fault NoSuchRecord)
looking_at keeps id_of name (Some row) = looking_with keeps (id_of name) row (imaged id_of row)

-- The search for a record by its name, beside the image of its wanted row, as a provider of this kind has it, and the
-- id that is known; or why it isn't sent
abbrev pub looking : Keeps → Book → RecordName → Result Look Hindrance
looking keeps book name = looking_at keeps (known_id book) name (wanted_row book name)

-- ---- whether a resource is as it is wanted

abbrev pub same_id : (known : Option (List ℕ)) → (id : List ℕ) → Bool
same_id None id = false
same_id (Some known) id = bytes_eq known id

-- its content is what is wanted, and its id is the known one
abbrev pub is_in_step : Beside → Bool
is_in_step b = is_same b.wanted b.found.content && same_id b.known b.found.id

-- ---- what the answer says

abbrev pub is_above_by : (wanted found : Option RevisionValue) → Bool
is_above_by None found = false
is_above_by (Some wanted) None = false
is_above_by (Some wanted) (Some found) = before wanted found

-- its revision is above the wanted one
abbrev pub is_above : Beside → Bool
is_above b = is_above_by (content_revision b.wanted) (content_revision b.found.content)

abbrev pub finding_of_record : Beside → Finding
finding_of_record b = if is_above b then Above b else Found b

-- a resource with another name isn't the record's
abbrev pub finding_beside : Beside → Finding
finding_beside b = if same_name (content_name b.wanted) (content_name b.found.content)
    then finding_of_record b else Unchecked (Fault Unfit)

-- a list shows the one resource that was found, or that none was found
abbrev pub listed : (wanted : Content) → (known : Option (List ℕ)) → (total : ℕ) → List ShownRecord
    → Finding
listed wanted known total [] = if total == 0 then Gone else Unchecked (Fault Unfit)
listed wanted known total (s ∷ []) = if total == 1
    then finding_beside (record { wanted = wanted; known = known; found = s }) else Unchecked (Fault Unfit)
listed wanted known total (s ∷ other ∷ more) = Unchecked (Fault Unfit)

abbrev pub answered : (wanted : Content) → (known : Option (List ℕ)) → Answer → Finding
answered wanted known (answers.List list) = listed wanted known list.total list.resources
answered wanted known (answers.Error error) = Unchecked (Fault (Refused error.status))
answered wanted known (answers.Created s) = Unchecked (Fault Unfit)
answered wanted known (answers.Found s) = Unchecked (Fault Unfit)
answered wanted known (answers.Replaced s) = Unchecked (Fault Unfit)
answered wanted known (answers.NotModified kind id version) = Unchecked (Fault Unfit)

-- What came of the search for a record says this of it, beside the wanted content and the known id
abbrev pub finding_of : (wanted : Content) → (known : Option (List ℕ)) → Result Answer ExchangeFault → Finding
finding_of wanted known (Ok answer) = answered wanted known answer
finding_of wanted known (Err fault) = Unchecked (Fault (Unanswered fault))

-- ---- what is counted and printed

abbrev pub is_unchecked : Finding → Bool
is_unchecked (Found b) = false
is_unchecked (Above b) = false
is_unchecked Gone = false
is_unchecked (Unchecked why) = true

-- what was found isn't what is wanted
abbrev pub is_differing : Finding → Bool
is_differing (Found b) = not (is_in_step b)
is_differing (Above b) = true
is_differing Gone = true
is_differing (Unchecked why) = false

-- it has a line; in a quiet run only if the account is active and shouldn't be, or the other way round, or if it
-- is unchecked
abbrev pub is_printed : (quiet : Bool) → Finding → Bool
is_printed false (Found b) = not (is_in_step b)
is_printed true (Found b) = not (agree b.wanted b.found.content Active)
is_printed quiet (Above b) = not quiet
is_printed quiet Gone = not quiet
is_printed quiet (Unchecked why) = true
