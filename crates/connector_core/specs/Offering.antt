-- How rows that were offered are taken back, so that all or none of them are taken.
use Rattle.std.specs.Prelude.{◌≡◌, List, [], ◌∷◌, Option, Some, None}
use Rattle.std.specs.FinMap.{remove}
use Rattle.scim_key.specs.declared.records.RecordName.{RecordName}
use Rattle.source_csv.specs.declared.rows.Row.{Row}
use Rattle.connector_core.specs.Book.{wanting_now}
use Rattle.connector_core.specs.Changing.{new_rows, taking_all, verdicts}
use Rattle.connector_core.specs.Maps.{BookMap, changed}
use Rattle.connector_core.specs.declared.taking.Note.{Note}
use Rattle.connector_core.specs.declared.offering.Offered.{Offered}

-- the book with the row that was wanted before, or without the record if there was none
abbrev pub row_back : BookMap → RecordName → Option Row → BookMap
row_back book name None = remove book name
row_back book name (Some row) = changed (wanting_now row) book name

abbrev pub taken_back : BookMap → Note → BookMap
taken_back book note = row_back book note.name note.last

-- the book before the changes of these notes, from the last one to the first
abbrev pub all_back : List Note → BookMap → BookMap
all_back [] book = book
all_back (note ∷ notes) book = taken_back (all_back notes book) note

-- the result of offering these rows to the old book
pub record AreOffered (old new : BookMap) (rows : List Row) (offered : Offered) : Type 0 where
  pub said : offered.said.items ≡ verdicts old rows
  pub fresh : offered.fresh.items ≡ new_rows old rows
  pub taken : new ≡ taking_all old rows
