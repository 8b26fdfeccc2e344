-- What the calls of a journal in memory make of its entries.
use Rattle.std.proofs.Common.{◌≡◌, ℕ, List, [], ◌∷◌, Option, Some, None, IsSome, ◌++◌, map, refl, ap, sym, subst, append_assoc, ◌∙◌, inl, inr, Result, Ok, min, ◌+◌, ◌-◌, ◌^◌, arith}
use Rattle.std.proofs.lemmas.Bool.{cases_Bool}
use Rattle.std.proofs.lemmas.List.Elements.{All-head, All-tail, All-map, All-weaker}
use Rattle.std.specs.BTreeMap.{BTreeMap, Updates, IsOrdered, get as get_in, values}
use Rattle.std.specs.FinMap.{from_entries, get, insert, get-entries, get-from_entries, same_map}
use Rattle.std.specs.FinMap.Entries.{find}
use Rattle.std.specs.List.{All, AllZip}
use Rattle.std.specs.Option.{option_map}
use Rattle.std.specs.Ordering.{is_eq}
use Rattle.scim_key.proofs.RevisionLaws.{none_first}
use Rattle.scim_key.specs.RecordOrder.{names_total, tied}
use Rattle.scim_key.specs.Records.{name_cmp}
use Rattle.scim_key.specs.Revisions.{RevisionValue}
use Rattle.scim_key.specs.declared.records.RecordName.{RecordName}
use Rattle.source_csv.specs.Records.{row_name, row_revision}
use Rattle.source_csv.specs.declared.rows.Row.{Row}
use Rattle.journal_core.specs.Entries.{EntryMap, IsEntryOf, IsListOf, CanPutRow, CanPutRows, CanPutLearnt, IsUpTo, entry_learnt, entry_with, learnt_at, named, with_learnt, with_row, with_rows}
use Rattle.journal_core.specs.Memory.{AreLawful, MemoryRecord, entries_in}
use Rattle.journal_core.specs.Calls.{Writes}
use Rattle.journal_core.specs.Stores.{CountsFault}
use Rattle.journal_core.specs.contracts.memory.MemoryJournalJournal.TheImpl as impl
use Rattle.scim_key.specs.declared.stores.StoreFault.{StoreFault}
use Rattle.journal_core.specs.declared.entries.Entry.{Entry}
use Rattle.journal_core.proofs.Trees.{get-tree, insert-tree, entries-tree, name_from_test, names_same}

abbrev Tree : Type 0
Tree = BTreeMap RecordName Entry

-- ---- the list of the entries

renamed : (es : List (RecordName × Entry)) → All (λ e. IsEntryOf e.0 e.1) es → es ≡ map named (map (λ e. e.1) es)
renamed [] lawful = refl
renamed (e ∷ es) lawful =
    let here : (e.0, e.1) ≡ named e.1 = ap (λ name. (name, e.1)) (sym (All-head (λ e. IsEntryOf e.0 e.1) e es lawful).named) in
    let rest = renamed es (All-tail (λ e. IsEntryOf e.0 e.1) e es lawful) in
    λ i. here i ∷ rest i

pub list-of : (tree : Tree) → AreLawful tree → IsOrdered name_cmp tree → All (λ e. get_in name_cmp tree e.0 ≡ Some e.1) tree.entries → IsListOf (entries_in tree) (values tree)
list-of tree lawful ordered found =
    let all : All (λ (e : RecordName × Entry). IsEntryOf e.0 e.1) tree.entries =
    All-weaker (λ (e : RecordName × Entry). get_in name_cmp tree e.0 ≡ Some e.1) (λ (e : RecordName × Entry). IsEntryOf e.0 e.1) (λ e is. lawful e.0 e.1 is) tree.entries found in
    record {
      whole = entries-tree tree ordered ∙ renamed tree.entries all;
      lawful = All-map (λ entry. IsUpTo entry.row entry.confirmed) (λ (e : RecordName × Entry). e.1) tree.entries
          (All-weaker (λ (e : RecordName × Entry). IsEntryOf e.0 e.1) (λ (e : RecordName × Entry). IsUpTo e.1.row e.1.confirmed) (λ e is. is.confirmed) tree.entries all);
    }

-- a journal has the entries of its list
pub of-list : (m : EntryMap) (list : List Entry) → IsListOf m list → from_entries (map named list) ≡ m
of-list m list is = same_map names_total names_same _ _ (λ q.
    get-from_entries names_total (map named list) q ∙ ap (find name_cmp q) (sym is.whole) ∙ sym (get-entries m q))

-- ---- an entry is put

same-value : (v w : Entry) → Some v ≡ Some w → v ≡ w
same-value v w e = cc

-- the entries stay valid if a valid one is put
pub lawful-put : (old new : Tree) (name : RecordName) (put : Entry) → AreLawful old → Updates name_cmp old new name (Some put) → IsEntryOf name put → AreLawful new
lawful-put old new name put lawful updates is q entry gets = elim (cases_Bool (is_eq (name_cmp name q))) [
  | inl e ↦
      let here : Some put ≡ Some entry = sym (updates.0 q ∙ rw e refl) ∙ gets in
      let same : name ≡ q = name_from_test name q (sym (tied name q) ∙ e) in
      subst (λ n. IsEntryOf n entry) same (subst (λ v. IsEntryOf name v) (same-value put entry here) is)
  | inr e ↦
      let there : get_in name_cmp old q ≡ get_in name_cmp new q = sym (updates.0 q ∙ rw e refl) in
      lawful q entry (there ∙ gets)
]

pub lawful-same : (old new : Tree) → AreLawful old → new.entries ≡ old.entries → AreLawful new
lawful-same old new lawful same name entry gets = lawful name entry (rw (sym same) gets)

-- the last entry of a list is put
pub last-put : (old new : Tree) (all list rest taken : List Entry) (name : RecordName) (entry : Entry) → all ≡ list ++ taken → list ≡ rest ++ entry ∷ []
    → entries_in old ≡ from_entries (map named taken) → AreLawful old → name ≡ row_name entry.row → IsUpTo entry.row entry.confirmed → Updates name_cmp old new name (Some entry)
    → (now : List Entry) × (all ≡ rest ++ now) × (entries_in new ≡ from_entries (map named now)) × AreLawful new
last-put old new all list rest taken name entry has last was lawful is up_to updates = (
  entry ∷ taken,
  has ∙ ap (λ l. l ++ taken) last ∙ append_assoc rest (entry ∷ []) taken,
  insert-tree old new name entry updates ∙ ap (λ m. insert m name entry) was ∙ ap (λ n. insert (from_entries (map named taken)) n entry) is,
  lawful-put old new name entry lawful updates (record { named = sym is; confirmed = up_to }),
)

-- ---- a row

first-or-later : (name : RecordName) (row : Row) (held : Option Entry) → row_name row ≡ name → ((entry : Entry) → held ≡ Some entry → IsUpTo row entry.confirmed) → IsEntryOf name (entry_with row held)
first-or-later name row None is up_to = record { named = is; confirmed = record { known = inl refl; within = none_first (row_revision row) } }
first-or-later name row (Some entry) is up_to = record { named = is; confirmed = up_to entry refl }

-- the entries after a valid row
pub row-put : (old new : Tree) (row copy : Row) (name : RecordName) → AreLawful old → CanPutRow (entries_in old) row → name ≡ row_name row → copy ≡ row
    → Updates name_cmp old new name (Some (entry_with copy (get_in name_cmp old name))) → AreLawful new × (entries_in new ≡ with_row (entries_in old) row)
row-put old new row copy name lawful can is same updates =
    let found : get_in name_cmp old (row_name row) ≡ get (entries_in old) (row_name row) = sym (get-tree old (row_name row)) in
    let put : Updates name_cmp old new (row_name row) (Some (entry_with row (get (entries_in old) (row_name row)))) =
    subst (λ e. Updates name_cmp old new (row_name row) (Some (entry_with row e))) found
    (subst (λ r. Updates name_cmp old new (row_name row) (Some (entry_with r (get_in name_cmp old (row_name row))))) same
    (subst (λ n. Updates name_cmp old new n (Some (entry_with copy (get_in name_cmp old n)))) is updates)) in
    let entry : IsEntryOf (row_name row) (entry_with row (get (entries_in old) (row_name row))) =
    first-or-later (row_name row) row (get (entries_in old) (row_name row)) refl
    (λ held there. record { known = (lawful (row_name row) held (found ∙ there)).confirmed.known; within = can.not_below held there }) in
    (lawful-put old new (row_name row) _ lawful put entry, insert-tree old new (row_name row) _ put)

-- ---- rows in a copy

same-pair : (e f : RecordName × Entry) → f.0.kind ≡ e.0.kind → f.0.key ≡ e.0.key → f.1 ≡ e.1 → f ≡ e
same-pair e f kind key entry = λ i. (record { kind = kind i; key = key i }, entry i)

-- a clone has the entries of what it is a clone of
pub clone-same : (es fs : List (RecordName × Entry)) → AllZip (λ e f. ((f.0.kind ≡ e.0.kind) × (f.0.key ≡ e.0.key)) × (f.1 ≡ e.1)) es fs → fs ≡ es
clone-same [] [] all = refl
clone-same [] (f ∷ fs) all = absurd all
clone-same (e ∷ es) [] all = absurd all
clone-same (e ∷ es) (f ∷ fs) all = λ i. same-pair e f all.0.0.0 all.0.0.1 all.0.1 i ∷ clone-same es fs all.1 i

-- before the first row: a clone of the entries
pub copied : (tree copy : Tree) (rows : List Row) → AreLawful tree → CanPutRows (entries_in tree) rows → copy.entries ≡ tree.entries
    → AreLawful copy × CanPutRows (entries_in copy) rows × (with_rows (entries_in copy) rows ≡ with_rows (entries_in tree) rows)
copied tree copy rows lawful can same =
    let map_is : entries_in copy ≡ entries_in tree = ap from_entries same in (
      lawful-same tree copy lawful same,
      subst (λ m. CanPutRows m rows) (sym map_is) can,
      ap (λ m. with_rows m rows) map_is,
    )

-- ---- what was learnt

pub learnt-there : (tree : Tree) (name : RecordName) (confirmed : RevisionValue) → CanPutLearnt (entries_in tree) name confirmed → IsSome (get_in name_cmp tree name)
learnt-there tree name confirmed can = rw (sym (get-tree tree name) ∙ can.there) refl

pub learnt-put : (old new : Tree) (name : RecordName) (confirmed : RevisionValue) (id copy : List ℕ) → AreLawful old → CanPutLearnt (entries_in old) name confirmed → copy ≡ id
    → Updates name_cmp old new name (option_map (entry_learnt confirmed copy) (get_in name_cmp old name)) → AreLawful new × (entries_in new ≡ with_learnt (entries_in old) name confirmed id)
learnt-put old new name confirmed id copy lawful can same updates =
    let found : get_in name_cmp old name ≡ Some can.entry = sym (get-tree old name) ∙ can.there in
    let put : Updates name_cmp old new name (Some (entry_learnt confirmed id can.entry)) =
    subst (λ e. Updates name_cmp old new name (option_map (entry_learnt confirmed id) e)) found
    (subst (λ i. Updates name_cmp old new name (option_map (entry_learnt confirmed i) (get_in name_cmp old name))) same updates) in
    let was : IsEntryOf name can.entry = lawful name can.entry found in
    let entry : IsEntryOf name (entry_learnt confirmed id can.entry) = record { named = was.named; confirmed = record { known = inr can.confirms; within = can.within } } in
    (lawful-put old new name _ lawful put entry, insert-tree old new name _ put ∙ ap (learnt_at (entries_in old) name confirmed id) (sym can.there))

-- ---- a call that wrote

abbrev pub after : EntryMap → ℕ → MemoryRecord
after entries writes = record { entries = entries; writes = writes }

abbrev answered : Result (Unit {0}) StoreFault
answered = Ok tt

-- the record of a call that made the entries these, and counted a write
pub made : (old : MemoryRecord) (was new : Tree) (held writes : ℕ) (change : EntryMap → EntryMap) → after (entries_in was) held ≡ old
    → entries_in new ≡ change (entries_in was) → writes ≡ min (held + 1) (2 ^ 64 - 1)
    → Writes (impl.ghosts) CountsFault old (after (entries_in new) writes) (change old.entries) answered
made old was new held writes change shows put counts =
    let entries : entries_in new ≡ change old.entries = put ∙ ap (λ v. change v.entries) shows in
    let held_is : held ≡ old.writes = ap (λ v. v.writes) shows in
    record {
      was = λ f. f;
      done = λ _. entries;
      same = λ _. tt;
      honest = λ f. f;
      stop = λ _ found is. inr (tt, is ∙ entries);
      counted = refl;
      written = omega (arith, counts, held_is);
      unwritten = tt;
    }
