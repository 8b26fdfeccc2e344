-- The connector's book: for each record the wanted row, and what is known about the record at the provider.
use Rattle.std.specs.Prelude.{ℕ, Bool, true, false, List, Option, Some, None, if◌then◌else◌}
use Rattle.std.specs.Option.{option_map, option_and_then}
use Rattle.scim_key.specs.Revisions.{RevisionValue, no_revision}
use Rattle.scim_key.specs.declared.records.RecordName.{RecordName}
use Rattle.source_csv.specs.Records.{row_name, row_revision}
use Rattle.source_csv.specs.declared.rows.Row.{Row}
use Rattle.connector_core.specs.History.{same_name}
use Rattle.connector_core.specs.declared.knowledge.Known.{Known}
use Rattle.connector_core.specs.declared.knowledge.Seen.{Seen}
use Rattle.connector_core.specs.declared.knowledge.Seen.TheVariants.{Unknown}

-- a record without a row of the source isn't in the book
abbrev pub Book : Type 0
Book = RecordName → Option Known

abbrev pub empty_book : Book
empty_book name = None

-- the book with this in place of what was there for the record
abbrev pub put : Book → RecordName → Known → Book
put book name known other = if same_name name other then Some known else book other

-- ---- what the source changes

-- a first row starts with nothing known; a later row replaces only the wanted row
abbrev pub wanting : Option Known → Row → Known
wanting None row = record { wanted = row; confirmed = no_revision; id = None; seen = Unknown; is_doubted = false }
wanting (Some known) row = record known { wanted = row }

-- the book in which this row is wanted
abbrev pub with_row : Book → Row → Book
with_row book row = put book (row_name row) (wanting (book (row_name row)) row)

-- ---- what a restart changes

-- what was seen is forgotten, and nothing is doubted
abbrev pub undoubted : Known → Known
undoubted known = record known { seen = Unknown; is_doubted = false }

-- the book after a restart: what was seen and what was doubted is forgotten, and everything else stays
abbrev pub reopened : Book → Book
reopened book name = option_map undoubted (book name)

-- ---- how a record changes

-- another row is wanted
abbrev pub wanting_now : Row → Known → Known
wanting_now row known = record known { wanted = row }

-- this was seen of the record, and it is doubted from now on, or isn't
abbrev pub seeing : Seen → (is_doubted : Bool) → Known → Known
seeing seen is_doubted known = record known { seen = seen; is_doubted = is_doubted }

-- what was seen is forgotten
abbrev pub forgotten : Known → Known
forgotten known = seeing Unknown known.is_doubted known

-- a resource was seen with this id, and this is confirmed
abbrev pub learning : RevisionValue → List ℕ → Seen → Known → Known
learning confirmed id seen known =
    record known { confirmed = confirmed; id = Some id; seen = seen; is_doubted = false }

-- What somebody else may have changed is doubted: it is searched for, and counts as confirmed only if it is seen as it is
-- wanted. The wanted row, the confirmed revision and the id stay
abbrev pub doubting : Known → Known
doubting known = seeing Unknown true known

-- the book in which this record is doubted, if it is there
abbrev pub doubted : Book → RecordName → Book
doubted book name other = if same_name name other then option_map doubting (book other) else book other

-- ---- what is read

abbrev pub wanted_row : Book → RecordName → Option Row
wanted_row book name = option_map (λ known. known.wanted) (book name)

abbrev pub known_id : Book → RecordName → Option (List ℕ)
known_id book name = option_and_then (λ known. known.id) (book name)

abbrev pub seen_of : Book → RecordName → Option Seen
seen_of book name = option_map (λ known. known.seen) (book name)

abbrev pub confirmed_if : Option Known → RevisionValue
confirmed_if None = no_revision
confirmed_if (Some known) = known.confirmed

-- the confirmed revision; none if the record doesn't exist
abbrev pub confirmed_of : Book → RecordName → RevisionValue
confirmed_of book name = confirmed_if (book name)

abbrev pub wanted_if : Option Known → RevisionValue
wanted_if None = no_revision
wanted_if (Some known) = row_revision known.wanted

-- the wanted revision; none if the record doesn't exist
abbrev pub wanted_of : Book → RecordName → RevisionValue
wanted_of book name = wanted_if (book name)
