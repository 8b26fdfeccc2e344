-- What the connector asks for next for a record.
use Rattle.std.specs.Prelude.{ℕ, pos, Bool, false, not, ◌&&◌, List, [], ◌∷◌, Option, Some, None, Result, Ok, Err, if◌then◌else◌}
use Rattle.std.specs.Option.{option_map}
use Rattle.scim_key.specs.Revisions.{same_revision}
use Rattle.scim_key.specs.declared.records.Kind.TheVariants as kinds
use Rattle.scim_key.specs.declared.records.RecordName.{RecordName}
use Rattle.scim_version.specs.declared.conditions.Condition.TheVariants.{Always, Tags}
use Rattle.scim_resource.specs.declared.contents.Content.{Content}
use Rattle.scim_filter.specs.Names.{name_filter}
use Rattle.scim_filter.specs.declared.terms.TextAttribute.TheVariants.{UserName, DisplayName}
use Rattle.scim_message.specs.declared.messages.Request.{Request}
use Rattle.scim_message.specs.declared.messages.Request.TheVariants.{Create, Search, Replace}
use Rattle.source_csv.specs.Records.{row_revision}
use Rattle.source_csv.specs.declared.rows.Row.{Row}
use Rattle.source_csv.specs.declared.rows.Row.TheVariants.{User, Group}
use Rattle.mapping.specs.Images.{imaged}
use Rattle.mapping.specs.declared.groups.ImageFault.{ImageFault}
use Rattle.mapping.specs.declared.groups.ImageFault.TheVariants.{MemberWithoutId, Memory}
use Rattle.connector_core.specs.Book.{Book, known_id}
use Rattle.connector_core.specs.Changing.{member_at}
use Rattle.connector_core.specs.declared.asking.Ask.{Ask}
use Rattle.connector_core.specs.declared.asking.Ask.TheVariants.{Nothing, Waits, Send}
use Rattle.connector_core.specs.declared.knowledge.Known.{Known}
use Rattle.connector_core.specs.declared.knowledge.Seen.{Seen}
use Rattle.connector_core.specs.declared.knowledge.Seen.TheVariants.{Unknown, Absent, At}

-- the search for the resource with the row's name as it is spelled: from the first place, without a count
abbrev pub search_for : Row → Request
search_for (User row) = Search kinds.User (Some (name_filter UserName row.login)) (pos 1) None
search_for (Group row) = Search kinds.Group (Some (name_filter DisplayName row.name)) (pos 1) None

-- the replacement of the version with this tag, and of no other version
abbrev pub replacement : (id : List ℕ) → (tag : List ℕ) → Content → Request
replacement id tag content = Replace id content (Tags (tag ∷ [])) Always

-- by what was seen of the record
abbrev pub request_for : Seen → Row → Content → Request
request_for Unknown row content = search_for row
request_for Absent row content = Create content
request_for (At id tag revision) row content = replacement id tag content

-- this request with the image of a row, if the row has one
abbrev pub requested : (Content → Request) → Result Content ImageFault → Result Request ImageFault
requested request (Ok content) = Ok (request content)
requested request (Err fault) = Err fault

-- by the image of the wanted row, or the place of its first member without an id (the last case doesn't occur: no image
-- runs out of memory)
abbrev pub asking_with : Result Content ImageFault → Known → Ask
asking_with (Ok content) known = Send (request_for known.seen known.wanted content)
asking_with (Err (MemberWithoutId place)) known = Waits (member_at known.wanted place)
asking_with (Err Memory) known = Nothing

-- whether the wanted revision is confirmed, and isn't doubted
abbrev pub is_done : Known → Bool
is_done known = not known.is_doubted && same_revision known.confirmed (row_revision known.wanted)

abbrev pub is_done_if : Option Known → Bool
is_done_if None = false
is_done_if (Some known) = is_done known

-- the same of a record; not if the record isn't in the book
abbrev pub is_done_at : Book → RecordName → Bool
is_done_at book name = is_done_if (book name)

abbrev pub asking_of : Book → Known → Ask
asking_of book known = if is_done known then Nothing else asking_with (imaged (known_id book) known.wanted) known

-- What the connector asks for next for a record; none if the record isn't in the book
abbrev pub asking : Book → RecordName → Option Ask
asking book name = option_map (asking_of book) (book name)
