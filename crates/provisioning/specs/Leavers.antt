-- How many users a run would switch off.
use Rattle.std.specs.Prelude.{◌≡◌, ◌&&◌, ℕ, Bool, false, not, List, [], filter, option_map, Option, Some, None, Ok}
use Rattle.std.specs.BTreeMap.{get as get_in}
use Rattle.std.specs.FinMap.{get, keys}
use Rattle.std.specs.List.{count_by}
use Rattle.std.specs.Option.{option_or}
use Rattle.scim_key.specs.Records.{name_cmp, same_kind}
use Rattle.scim_key.specs.Revisions.{RevisionValue, before, no_revision, same_revision}
use Rattle.scim_key.specs.declared.records.Kind.TheVariants as kind
use Rattle.scim_key.specs.declared.records.RecordName.{RecordName}
use Rattle.source_csv.specs.Records.{row_revision}
use Rattle.source_csv.specs.declared.rows.Row.{Row}
use Rattle.source_csv.specs.declared.rows.Row.TheVariants.{User, Group}
use Rattle.journal_core.specs.declared.journals.Journal.{Ghosts}
use Rattle.connector_core.specs.Book.{Book, confirmed_of, wanted_of, wanted_row}
use Rattle.connector_core.specs.Changing.{taking_all}
use Rattle.connector_core.specs.Maps.{BookMap, book_of}
use Rattle.connector_core.specs.State.{State}
use Rattle.connector_core.specs.declared.knowledge.Known.{Known}
use Rattle.provisioning.specs.Offering.{OffersAll, rows_in}
use Rattle.provisioning.specs.Sources.{records_of}
use Rattle.provisioning.specs.declared.leavers.Ahead.{Ahead}
use Rattle.provisioning.specs.declared.leavers.Last.{Last}
use Rattle.provisioning.specs.declared.offering.Judged.{Judged}
use Rattle.provisioning.specs.declared.sources.Source.{Source}
use Rattle.provisioning.specs.declared.sources.Sources.{Sources}

-- ---- users

-- the row of a user who left
abbrev pub has_left : Option Row → Bool
has_left (Some (User row)) = not row.active
has_left (Some (Group row)) = false
has_left None = false

-- a revision of the user is confirmed, and the user isn't known to be off: the user is, if the wanted row says `left`
-- and is confirmed
abbrev pub is_in_use : Book → RecordName → Bool
is_in_use book name = same_kind name.kind kind.User && (not (same_revision (confirmed_of book name) no_revision)
    && not (has_left (wanted_row book name) && same_revision (wanted_of book name) (confirmed_of book name)))

abbrev pub names_in_use : BookMap → List RecordName
names_in_use book = filter (is_in_use (book_of book)) (keys book)

-- the wanted row says that the user left, and its revision isn't confirmed
abbrev pub is_switched_off : Book → RecordName → Bool
is_switched_off book name = has_left (wanted_row book name)
    && not (same_revision (wanted_of book name) (confirmed_of book name))

-- how many users a run switches off that starts with one book, and has the other after the rows of its files
abbrev pub leavers : (before after : BookMap) → ℕ
leavers before after = count_by (is_switched_off (book_of after)) (names_in_use before)

-- ---- the book after the rows of the files

-- the rows of a file of groups; none if there is no such file
abbrev pub group_rows : Option Source → List Row
group_rows None = []
group_rows (Some source) = rows_in (records_of source)

-- the rows of the file of users are offered, then those of the file of groups
abbrev pub taking_sources : BookMap → Sources → BookMap
taking_sources book sources =
    taking_all (taking_all book (rows_in (records_of sources.users))) (group_rows sources.groups)

-- how many users a run over these files switches off that starts with this book
abbrev pub leavers_by : BookMap → Sources → ℕ
leavers_by book sources = leavers book (taking_sources book sources)

-- a run that has offered the rows of its files has that book
abbrev pub TakesSources : {J : Type 0} → Ghosts J → Type 0
TakesSources {J} g = (sources : Sources) (old new : State J) (before after : Option (List Judged)) (taken : Bool)
    → OffersAll g sources old new before after (Ok taken) → new.book ≡ taking_sources old.book sources

-- ---- counting them without taking the rows

abbrev pub last_of : Row → Last
last_of row = record { revision = row_revision row; has_left = has_left (Some row) }

-- what the wanted row of a record says after the rows so far, which start with this book
abbrev pub last_in : Ahead → BookMap → RecordName → Option Last
last_in ahead book name =
    option_or (get_in name_cmp ahead.later name) (option_map last_of (wanted_row (book_of book) name))

-- the row is later than the last one of its record, which the book has
abbrev pub is_later : Option Last → Row → Bool
is_later None row = false
is_later (Some last) row = before last.revision (row_revision row)

-- the record is known so: its wanted row says this, and this revision is confirmed
abbrev pub IsKnownSo : (said : Option Last) → (confirmed : RevisionValue) → Option Known → Type 0
IsKnownSo said confirmed None = ⊥
IsKnownSo said confirmed (Some known) = (said ≡ Some (last_of known.wanted)) × (known.confirmed ≡ confirmed)

-- the rows so far make the later book of the first one, as far as it is of users whom the first one has
abbrev pub IsAhead : BookMap → Ahead → (later : BookMap) → Type 0
IsAhead book ahead later = (name : RecordName) (known : Known) → name.kind ≡ kind.User
    → get book name ≡ Some known → IsKnownSo (last_in ahead book name) known.confirmed (get later name)

-- they do so, too, if these rows follow
abbrev pub GoesAhead : BookMap → (old new : Ahead) → List Row → Type 0
GoesAhead book old new rows = (later : BookMap) → IsAhead book old later → IsAhead book new (taking_all later rows)

abbrev pub is_off_by : Option Last → (confirmed : RevisionValue) → Bool
is_off_by None confirmed = false
is_off_by (Some last) confirmed = last.has_left && not (same_revision last.revision confirmed)

-- the record is a user in use, and the rows so far switch the user off
abbrev pub is_leaver : Ahead → BookMap → RecordName → Bool
is_leaver ahead book name =
    is_off_by (last_in ahead book name) (confirmed_of (book_of book) name) && is_in_use (book_of book) name
