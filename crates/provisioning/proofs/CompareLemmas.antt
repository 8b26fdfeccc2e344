-- Rows that are kept of records, and names that are collected.
use Rattle.std.proofs.Common.{◌≡◌, ◌∙◌, ◌||◌, Bool, false, List, ◌∷◌, if◌then◌else◌, Option, Some, None, Result, Ok, Err, IfOk, map-id, is_some, unwrap_or, refl, sym, ap, inl, inr}
use Rattle.std.proofs.lemmas.Bool.{cases_Bool}
use Rattle.std.proofs.lemmas.Iterator.{YieldsList, items_from_drains}
use Rattle.std.specs.BTreeMap.{BTreeMap, IsEmpty, Updates, get, is_at}
use Rattle.std.specs.BTreeSet.{BTreeSet, IsFromIterResult, contains}
use Rattle.std.specs.FinMap.{contains_key-keys, get as get_of, keys}
use Rattle.std.specs.Iterator.{DrainsIf}
use Rattle.std.specs.List.{list_any}
use Rattle.std.specs.Map.{lookup}
use Rattle.std.specs.Ordering.{eq_by_cmp}
use Rattle.scim_key.specs.RecordOrder.{names_tie, tied}
use Rattle.scim_key.specs.Records.{name_cmp, same_name}
use Rattle.scim_key.specs.Revisions.{no_revision, same_revision}
use Rattle.scim_key.specs.declared.records.RecordName.{RecordName}
use Rattle.source_csv.specs.declared.rows.Row.{Row}
use Rattle.journal_core.proofs.Trees.{name_from_test, turned}
use Rattle.connector_core.specs.Maps.{BookMap, book_of}
use Rattle.connector_core.specs.declared.knowledge.Known.{Known}
use Rattle.provisioning.specs.Bases.{all_absent, confirmed_row, is_absent, kept_more, kept_row}
use Rattle.provisioning.specs.declared.sources.Sources.{Sources}

abbrev Kept : Type 0
Kept = BTreeMap RecordName (Option Row)

-- one more row is kept
pub kept : (old new : Kept) (name : RecordName) (copy row : Option Row) → copy ≡ row
    → Updates name_cmp old new name (Some copy) → (other : RecordName) → kept_row new other ≡ kept_more (kept_row old) name row other
kept old new name copy row is updates other = elim (cases_Bool (same_name name other)) [
  | inl e ↦
      let here : get name_cmp new other ≡ Some copy = updates.0 other ∙ rw (tied name other, e) refl in
      rw (here, e) is
  | inr e ↦
      let there : get name_cmp new other ≡ get name_cmp old other = updates.0 other ∙ rw (tied name other, e) refl in
      rw (there, e) refl
]

-- the set of the names of a list
pub collected : {S E : Type 0} {steps : S → Option RecordName → S → Type 0} {s : S} (names : List RecordName) (sources : Sources) (r : Result (BTreeSet RecordName) E)
    → IfOk r (λ set. (xs : List RecordName) × DrainsIf steps (Unit {0}) s xs × IsFromIterResult name_cmp xs set)
    → YieldsList steps (λ x. x) s names → names ≡ all_absent sources → IfOk r (λ set. (name : RecordName) → contains name_cmp set name ≡ is_absent sources name)
collected names sources (Ok set) ran yields are = λ name.
    let tests : eq_by_cmp name_cmp name ≡ same_name name = λ i other. sym (names_tie name other) i in
    ran.2.0 name ∙ ap (λ t. list_any t ran.0) tests ∙ ap (list_any (same_name name)) (sym (map-id ran.0) ∙ items_from_drains ran.0 ran.1 yields ∙ are)
collected names sources (Err fault) ran yields are = tt

-- nothing is kept in an empty map
pub kept_none : (rows : Kept) (name : RecordName) → IsEmpty rows → kept_row rows name ≡ None
kept_none rows name empty = ap (λ (es : List (RecordName × Option Row)). unwrap_or (lookup (is_at (name_cmp name)) es) None) empty

same_turned : (a b : RecordName) → same_name a b ≡ same_name b a
same_turned a b = sym (tied a b) ∙ turned a b ∙ tied b a

-- the rows of all but the names that are left are kept, and that of the next one too
pub one_kept : (rows later confirmed : RecordName → Option Row) (name : RecordName) (row : Option Row) (left rest : List RecordName)
    → left ≡ name ∷ rest → row ≡ confirmed name → ((other : RecordName) → later other ≡ kept_more rows name row other)
    → ((other : RecordName) → list_any (same_name other) left ≡ false → rows other ≡ confirmed other)
    → (other : RecordName) → list_any (same_name other) rest ≡ false → later other ≡ confirmed other
one_kept rows later confirmed name row left rest is row_is more so_far other none = elim (cases_Bool (same_name name other)) [
  | inl e ↦ more other ∙ ap (λ (b : Bool). if b then row else rows other) e ∙ row_is ∙ ap confirmed (name_from_test name other e)
  | inr e ↦
      let not_there : list_any (same_name other) left ≡ false =
      ap (list_any (same_name other)) is ∙ ap (λ b. b || list_any (same_name other) rest) (same_turned other name ∙ e) ∙ none in
      more other ∙ ap (λ (b : Bool). if b then row else rows other) e ∙ so_far other not_there
]

no_known : (held : Option Known) → is_some held ≡ false → held ≡ None
no_known None e = refl
no_known (Some known) e = absurd (cc)

-- nothing is confirmed of a name that a book doesn't list
pub unlisted : (book : BookMap) (name : RecordName) → list_any (same_name name) (keys book) ≡ false → confirmed_row (book_of book) name ≡ None
unfolding same_revision no_revision
unlisted book name none =
    let tests : same_name name ≡ eq_by_cmp name_cmp name = λ i other. names_tie name other i in
    let absent : get_of book name ≡ None =
    no_known (get_of book name) (contains_key-keys book name ∙ ap (λ t. list_any t (keys book)) (sym tests) ∙ none) in
    rw (absent) refl
