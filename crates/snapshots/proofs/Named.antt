-- Each wanted row of a connector's book is of the record that wants it.
use Rattle.std.proofs.Common.{◌≡◌, List, [], ◌∷◌, Option, Some, None, Result, Ok, Err, map, refl, ap, sym, ◌∙◌, inl, inr}
use Rattle.std.proofs.lemmas.Bool.{cases_Bool}
use Rattle.std.specs.FinMap.{find, get, get-entries}
use Rattle.std.specs.Option.{option_map}
use Rattle.std.specs.Ordering.{eq_by_cmp}
use Rattle.scim_key.proofs.RecordLaws.{same as same_names}
use Rattle.scim_key.specs.RecordOrder.{names_tie}
use Rattle.scim_key.specs.Records.{name_cmp}
use Rattle.scim_key.specs.declared.records.RecordName.{RecordName}
use Rattle.source_csv.specs.Records.{row_name}
use Rattle.source_csv.specs.declared.rows.Row.{Row}
use Rattle.journal_core.specs.Entries.{EntryMap, IsListOf, named}
use Rattle.journal_core.specs.declared.entries.Entry.{Entry}
use Rattle.connector_core.specs.Changing.{accepted_map, judged, taking, taking_all}
use Rattle.connector_core.specs.Maps.{BookMap}
use Rattle.connector_core.specs.State.{IsOpened, opened}
use Rattle.connector_core.specs.declared.accepting.Verdict.{Verdict}
use Rattle.connector_core.specs.declared.accepting.Verdict.TheVariants as verdict
use Rattle.connector_core.specs.declared.changing.ChangeFault.{ChangeFault}
use Rattle.connector_core.specs.declared.knowledge.Known.{Known}
use Rattle.snapshots.proofs.After.{named_with}
use Rattle.snapshots.proofs.Offers.{some_row}
use Rattle.snapshots.proofs.Taken.{put_wants, wanted_in}
use Rattle.snapshots.specs.Laws.{AreNamed, BooksAreNamed}

-- ---- rows that are taken

named_by : (book : BookMap) (row : Row) (said : Result Verdict ChangeFault) → AreNamed (wanted_in book)
    → AreNamed (wanted_in (accepted_map book row said))
named_by book row (Ok verdict.New) are = λ name held is.
    named_with (wanted_in book) row are name held (sym (put_wants book row name) ∙ is)
named_by book row (Ok verdict.Known) are = are
named_by book row (Ok verdict.Older) are = are
named_by book row (Err fault) are = are

named_taken : (book : BookMap) (rows : List Row) → AreNamed (wanted_in book) → AreNamed (wanted_in (taking_all book rows))
named_taken book [] are = are
named_taken book (row ∷ rows) are = named_taken (taking book row) rows (named_by book row (judged book row) are)

-- ---- a journal that is opened

some_entry : (a b : Entry) → Some a ≡ Some b → a ≡ b
some_entry a b e = cc

found_named : (list : List Entry) (name : RecordName) (entry : Entry) → find name_cmp name (map named list) ≡ Some entry
    → row_name entry.row ≡ name
found_named [] name entry e = absurd (cc)
found_named (first ∷ list) name entry e = elim (cases_Bool (eq_by_cmp name_cmp name (row_name first.row))) [
  | inl here ↦
      let same : first ≡ entry = some_entry first entry (rw here at e) in
      let name_is : name ≡ row_name first.row =
      (same_names name (row_name first.row)).0 (names_tie name (row_name first.row) ∙ here) in
      ap (λ (it : Entry). row_name it.row) (sym same) ∙ sym name_is
  | inr there ↦ found_named list name entry (rw there at e)
]

held_entry : (held : Option Entry) (row : Row)
    → option_map (λ (known : Known). known.wanted) (option_map opened held) ≡ Some row
    → (entry : Entry) × (held ≡ Some entry) × (entry.row ≡ row)
held_entry None row e = absurd (cc)
held_entry (Some entry) row e = (entry, refl, some_row entry.row row e)

named_opened : (kept : EntryMap) (list : List Entry) (book : BookMap) → IsListOf kept list → IsOpened kept book
    → AreNamed (wanted_in book)
named_opened kept list book is opens name row wants =
    let (entry, there, same) =
    held_entry (get kept name) row (sym (ap (option_map (λ (known : Known). known.wanted)) (opens.entries name)) ∙ wants) in
    let found : find name_cmp name (map named list) ≡ Some entry =
    sym (ap (find name_cmp name) is.whole) ∙ sym (get-entries kept name) ∙ there in
    sym (ap row_name same) ∙ found_named list name entry found

pub books_are_named : BooksAreNamed
books_are_named = record { opened = named_opened; taken = named_taken }
