-- The printed lines of a journal's entries.
use Rattle.std.specs.Prelude.{ℕ, List, ◌++◌, Option, Some, None, codes}
use Rattle.std.specs.List.{flat_map}
use Rattle.scim_key.specs.Revisions.{RevisionValue, revision_text}
use Rattle.scim_key.specs.declared.records.RecordName.{RecordName}
use Rattle.source_csv.specs.Records.{row_name, row_revision}
use Rattle.journal_core.specs.Words.{kind_word}
use Rattle.journal_core.specs.declared.entries.Entry.{Entry}
use Rattle.journal_core.specs.Printable.{printable_text}

-- the id, or a hyphen if none is known
abbrev pub id_text : Option (List ℕ) → List ℕ
id_text (Some id) = id
id_text None = codes "-"

abbrev pub line_of : RecordName → (wanted confirmed : RevisionValue) → (id : List ℕ) → List ℕ
line_of name wanted confirmed id =
    kind_word name.kind ++ (codes " " ++ (name.key
    ++ (codes " wanted=" ++ (revision_text wanted
    ++ (codes " confirmed=" ++ (revision_text confirmed ++ (codes " id=" ++ (id ++ codes "\n"))))))))

-- the key of the name, the wanted revision, the confirmed revision or 0, and the id as it is printed
abbrev pub entry_line : Entry → List ℕ
entry_line entry =
    line_of (row_name entry.row) (row_revision entry.row) entry.confirmed (printable_text (id_text entry.id))

-- the lines of these entries, in order
abbrev pub lines_of : List Entry → List ℕ
lines_of list = flat_map entry_line list
