-- The rows of a page are valid: over sound tables, a row that shows a record is the only one with its kind and its key.
use Rattle.std.proofs.Common.{◌≡◌, ◌≤◌, ◌<◌, ◌+◌, ◌-◌, min, ℕ, suc, ℤ, pos, Bool, true, false, not, ◌&&◌, cond, List, [], ◌∷◌, filter, length, map, IsPermutation, Some, Ordering, Less, Equal, Greater, refl, sym, ap, ◌∙◌, subst, inl, inr, arith, IsTrue}
use Rattle.std.specs.List.{list_any}
use Rattle.std.specs.Ordering.{is_eq, is_ne}
use Rattle.std.proofs.lemmas.Bool.{and_parts, and_from, cases_lt, false_from_ne_true}
use Rattle.std.proofs.lemmas.Cmp.{tied_itself}
use Rattle.std.proofs.lemmas.Map.Text.{is_eq-slice_cmp}
use Rattle.std.proofs.lemmas.Slice.Eq.{bytes_eq-Decides}
use Rattle.sqlite_value.specs.declared.value.Value.{Value}
use Rattle.sqlite_value.specs.declared.value.Value.TheVariants.{Null, Int, Real, Text, Blob}
use Rattle.sqlite_value.specs.declared.keys.Collation.{Collation}
use Rattle.sqlite_value.specs.declared.keys.Collation.TheVariants.{Binary, NoCase, RTrim}
use Rattle.sqlite_value.specs.Keys.{first_key, later}
use Rattle.sqlite_value.specs.Order.{Row, column, value_cmp}
use Rattle.sqlite_value.proofs.OrderLemmas.{value_cmp_total, value_cmp-Text, value_cmp-Null, value_cmp-apart}
use Rattle.sqlite_sql.specs.Ops.{binary, is_null, is_true, from_truth}
use Rattle.sqlite_sql.specs.declared.ops.BinaryOp.TheVariants.{Is}
use Rattle.sqlite_trees.specs.Tree.{rowid, has_rowid}
use Rattle.sqlite_trees.proofs.ListLemmas.{filter_same, all_of}
use Rattle.sqlite_schema.specs.declared.schema.Schema.{Schema}
use Rattle.sqlite_schema.specs.declared.schema.Constraint.TheVariants.{Unique}
use Rattle.sqlite_schema.specs.Rules.{Keeps, agree, clashes, differ, equal, passes as obeys_rule}
use Rattle.sqlite_rules.specs.Lists.{Has}
use Rattle.sqlite_rules.proofs.ListLemmas.{all_has, has_filtered, has_kept, some_from}
use Rattle.sqlite.specs.Effect.{IsDatabase}
use Rattle.sqlite.specs.State.{State, HasCleanDisk}
use Rattle.scim_resource.specs.Contents.{content_kind, content_name}
use Rattle.scim_resource.specs.Rows.{StoredRecord}
use Rattle.provider_store.specs.Format.{name_places, provider_schema, resource_table, unnumbered_text}
use Rattle.provider_store.specs.Rows.{kind_code, shown_row, IsRowOf}
use Rattle.provider_store.specs.Lawful.{has_name, AreLawfulTo, AreNumbered, IsLawfulAt}
use Rattle.provider_store.specs.Connections.{IsLaid, HoldsPage, resources}
use Rattle.provider_store.proofs.Checking.{same_rows}
use Rattle.provider_store.proofs.Finding.{has_named}
use Rattle.provider_store.proofs.Holding.{number_of, some_within}
use Rattle.provider_store.proofs.Refusing.{numbered_there}
use Rattle.provider_store.proofs.Texts.{outside_shown, unnumbered_is, unnumbered_term}
use Rattle.sql_tables.proofs.Answering.{answered_by, empty, nothing}
use Rattle.sql_tables.proofs.Looking.{was_clean}
use Rattle.sql_tables.proofs.Selecting.{and_true, passes, shows}
use Rattle.sql_tables.specs.Statements.{Answers, Looks}

-- ---- comparisons under a collation

truth_is : (b : Bool) → is_true (from_truth (Some b)) ≡ b
truth_is true = refl
truth_is false = refl

-- what SQLite compares as equal to a number is equal to it under each collation
equal_number : (c : Collation) (v : Value) (n : ℤ) → is_eq (value_cmp v (Int n)) ≡ true → equal c v (Int n) ≡ true
unfolding binary
equal_number c Null n same = absurd (let never = sym same ∙ ap is_eq (value_cmp-Null (Int n)) in cc)
equal_number Binary (Int m) n same = truth_is _ ∙ same
equal_number NoCase (Int m) n same = truth_is _ ∙ same
equal_number RTrim (Int m) n same = truth_is _ ∙ same
equal_number Binary (Real x) n same = truth_is _ ∙ same
equal_number NoCase (Real x) n same = truth_is _ ∙ same
equal_number RTrim (Real x) n same = truth_is _ ∙ same
equal_number c (Text t) n same = absurd (let never = sym same ∙ ap is_eq (value_cmp-apart (Text t) (Int n) (λ e. absurd (omega (arith, e)))) in cc)
equal_number c (Blob b) n same = absurd (let never = sym same ∙ ap is_eq (value_cmp-apart (Blob b) (Int n) (λ e. absurd (omega (arith, e)))) in cc)

itself : (v : Value) → is_eq (value_cmp v v) ≡ true
itself v = ap is_eq (tied_itself value_cmp_total v)

equal_itself : (c : Collation) (t : List ℕ) → equal c (Text t) (Text t) ≡ true
unfolding binary
equal_itself Binary t = truth_is _ ∙ itself (Text t)
equal_itself NoCase t = truth_is _ ∙ itself _
equal_itself RTrim t = truth_is _ ∙ itself _

same_text : (s t : List ℕ) → is_eq (value_cmp (Text s) (Text t)) ≡ true → s ≡ t
same_text s t same = (bytes_eq-Decides s t).0 (sym (ap is_eq (value_cmp-Text s t) ∙ is_eq-slice_cmp s t) ∙ same)

-- and so is what it compares as equal to a text
equal_text : (c : Collation) (v : Value) (t : List ℕ) → is_eq (value_cmp v (Text t)) ≡ true → equal c v (Text t) ≡ true
equal_text c Null t same = absurd (let never = sym same ∙ ap is_eq (value_cmp-Null (Text t)) in cc)
equal_text c (Int m) t same = absurd (let never = sym same ∙ ap is_eq (value_cmp-apart (Int m) (Text t) (λ e. absurd (omega (arith, e)))) in cc)
equal_text c (Real x) t same = absurd (let never = sym same ∙ ap is_eq (value_cmp-apart (Real x) (Text t) (λ e. absurd (omega (arith, e)))) in cc)
equal_text c (Text s) t same = subst (λ x. equal c (Text x) (Text t) ≡ true) (sym (same_text s t same)) (equal_itself c t)
equal_text c (Blob b) t same = absurd (let never = sym same ∙ ap is_eq (value_cmp-apart (Blob b) (Text t) (λ e. absurd (omega (arith, e)))) in cc)

not_apart : (o : Ordering) → is_true (from_truth (Some (is_ne o))) ≡ false → is_eq o ≡ true
not_apart Less same = absurd (cc)
not_apart Equal same = refl
not_apart Greater same = absurd (cc)

-- a value that isn't NULL and doesn't differ from a number is equal to it
not_differ : (v : Value) (n : ℤ) → is_null v ≡ false → differ v (Int n) ≡ false → is_eq (value_cmp v (Int n)) ≡ true
unfolding binary
not_differ Null n some same = absurd (cc)
not_differ (Int m) n some same = not_apart (value_cmp (Int m) (Int n)) same
not_differ (Real x) n some same = not_apart (value_cmp (Real x) (Int n)) same
not_differ (Text t) n some same = not_apart (value_cmp (Text t) (Int n)) same
not_differ (Blob b) n some same = not_apart (value_cmp (Blob b) (Int n)) same

-- ---- the rows without a number

pub nothing_in : {X : Type 0} (xs : List X) → length xs ≡ 0 → xs ≡ []
nothing_in [] size = refl
nothing_in (x ∷ xs) size = absurd (omega (arith, size))

-- IS NULL is the test for NULL
null_is : (v : Value) → is_true (binary (Is Binary) v Null) ≡ is_null v
unfolding binary
null_is Null = truth_is _ ∙ ap is_eq (value_cmp-Null Null)
null_is (Int m) = truth_is _ ∙ ap is_eq (value_cmp-apart (Int m) Null (λ e. absurd (omega (arith, e))))
null_is (Real x) = truth_is _ ∙ ap is_eq (value_cmp-apart (Real x) Null (λ e. absurd (omega (arith, e))))
null_is (Text t) = truth_is _ ∙ ap is_eq (value_cmp-apart (Text t) Null (λ e. absurd (omega (arith, e))))
null_is (Blob b) = truth_is _ ∙ ap is_eq (value_cmp-apart (Blob b) Null (λ e. absurd (omega (arith, e))))

unnumbered_tests : (r : Row) → passes (unnumbered_term ∷ []) [] r ≡ is_null (rowid r)
unnumbered_tests r = and_true _ ∙ null_is (column r 0)

module _ (s : State) (rows : List Row) (laid : IsLaid s) (answers : Answers unnumbered_text [] s rows) where
  by_null : filter (passes (unnumbered_term ∷ []) []) (resources s) ≡ filter (λ r. is_null (rowid r)) (resources s)
  by_null = filter_same (passes (unnumbered_term ∷ []) []) (λ r. is_null (rowid r)) (resources s) (all_of (λ r. passes (unnumbered_term ∷ []) [] r ≡ is_null (rowid r)) unnumbered_tests (resources s))

  all_null : IsPermutation (map (shows outside_shown []) (filter (λ r. is_null (rowid r)) (resources s))) rows
  all_null = subst (λ l. IsPermutation (map (shows outside_shown []) l) rows) by_null (answered_by s [] rows unnumbered_is laid answers (λ _. refl))

  pub numbered_found : rows ≡ [] → AreNumbered (resources s)
  numbered_found none = empty (shows outside_shown []) _ (subst (IsPermutation (map (shows outside_shown []) (filter (λ r. is_null (rowid r)) (resources s)))) none all_null)

  pub unnumbered_found : AreNumbered (resources s) → rows ≡ []
  unnumbered_found none = nothing rows (subst (λ l. IsPermutation (map (shows outside_shown []) l) rows) none all_null)

-- ---- lists

any_none : {X : Type 0} (p : X → Bool) (xs : List X) (x : X) → list_any p xs ≡ false → Has xs x → p x ≡ false
any_none p xs x none there = false_from_ne_true (p x) (λ is. absurd (let clash = sym none ∙ some_from p xs x there is in cc))

-- a test that only elements of a sublist pass picks the same from it
narrowed : {X : Type 0} (p q : X → Bool) (xs : List X) → ((x : X) → Has xs x → q x ≡ true → p x ≡ true) → filter q (filter p xs) ≡ filter q xs
narrowed p q [] weaker = refl
narrowed {X} p q (x ∷ xs) weaker = go (p x) (q x) refl refl (narrowed p q xs (λ y there. weaker y (inr there)))
  where
    go : (b c : Bool) → p x ≡ b → q x ≡ c → filter q (filter p xs) ≡ filter q xs → filter q (cond b (x ∷ filter p xs) (filter p xs)) ≡ cond c (x ∷ filter q xs) (filter q xs)
    go true c is other ih = rw other (ap (λ l. cond c (x ∷ l) l) ih)
    go false true is other ih = absurd (let clash = sym is ∙ weaker x (inl refl) other in cc)
    go false false is other ih = ih

-- ---- the law

not_true : (b : Bool) → (not b && true) ≡ true → b ≡ false
not_true true is = absurd (cc)
not_true false is = refl

second_false : (a b : Bool) → (a && b) ≡ false → a ≡ true → b ≡ false
second_false true b never is = never
second_false false b never is = absurd (cc)

module _ (s : State) (sound : IsDatabase s.now) (laid : IsLaid s) (numbered : AreNumbered (resources s)) where
  -- no other row has the key of this one
  unique : (r : Row) → Has (resources s) r → clashes laid.form.order name_places (resources s) r ≡ false
  unique r there =
      let schema : Schema = provider_schema laid.form in
      let rules : Keeps Unique schema s.now.trees = subst (λ (schema : Schema). Keeps Unique schema s.now.trees) laid.schema (sound.obeys.rules Unique) in
      not_true (clashes laid.form.order name_places (resources s) r)
      (all_has (λ row. obeys_rule Unique schema s.now.trees (resource_table laid.form.resource_checks laid.form.order) row ≡ true) (resources s) r rules.1.0 there)

  module _ (number : ℕ) (row : Row) (held : StoredRecord) (only : filter (has_rowid (pos number)) (resources s) ≡ row ∷ []) (shows : IsRowOf (shown_row row) held) where
    there : Has (resources s) row
    there = numbered_there (resources s) number row only

    at : rowid row ≡ Int (pos number)
    at = number_of row held number (resources s) shows only

    agrees : (q : Row) → has_name (content_name held.content) q ≡ true → agree laid.form.order name_places q name_places row ≡ true
    agrees q named =
        let parts = and_parts (is_eq (value_cmp (column q 2) (Int (pos (kind_code (content_kind held.content)))))) (is_eq (value_cmp (column q 3) (Text (content_name held.content).key))) named in
        let kind : column row 2 ≡ Int (pos (kind_code (content_kind held.content))) = ap (λ r. column r 1) shows.shows in
        let key : column row 3 ≡ Text (content_name held.content).key = ap (λ r. column r 2) shows.shows in
        let first = (first_key laid.form.order).collation in
        let second = (first_key (later laid.form.order)).collation in
        and_from _ _ (subst (λ v. equal first (column q 2) v ≡ true) (sym kind) (equal_number first (column q 2) (pos (kind_code (content_kind held.content))) parts.0))
        (and_from _ _ (subst (λ v. equal second (column q 3) v ≡ true) (sym key) (equal_text second (column q 3) (content_name held.content).key parts.1)) refl)

    has_number : (q : Row) → Has (resources s) q → is_null (rowid q) ≡ false
    has_number q in_table = false_from_ne_true (is_null (rowid q)) (λ none. absurd (subst (λ l. Has l q) numbered (has_kept (λ r. is_null (rowid r)) (resources s) q in_table none)))

    -- a row with the name has the number
    named_at : (q : Row) → Has (resources s) q → has_name (content_name held.content) q ≡ true → has_rowid (pos number) q ≡ true
    named_at q in_table named =
        let none = any_none (λ other. agree laid.form.order name_places other name_places row && differ (rowid other) (rowid row)) (resources s) q (unique row there) in_table in
        let same : differ (rowid q) (rowid row) ≡ false = second_false (agree laid.form.order name_places q name_places row) (differ (rowid q) (rowid row)) none (agrees q named) in
        not_differ (rowid q) (pos number) (has_number q in_table) (subst (λ v. differ (rowid q) v ≡ false) at same)

    pub lawful : IsLawfulAt (resources s) number
    lawful =
        let name = content_name held.content in
        let own = (has_filtered (has_name name) (resources s) row (has_named (resources s) name row held (record { there = there; shows = shows; named = refl }))).1 in
        let alone : filter (has_name name) (row ∷ []) ≡ row ∷ [] = rw own refl in
        record {
          row = row;
          held = held;
          only = only;
          shows = shows;
          named = sym (narrowed (has_rowid (pos number)) (has_name name) (resources s) named_at) ∙ ap (filter (has_name name)) only ∙ alone;
        }

  -- ---- a page

  module _ (after last : ℕ) (page : List StoredRecord) (before : AreLawfulTo (resources s) after) (holds : HoldsPage (resources s) after last page) where
    -- the rows of a page are valid
    pub page_lawful : (count : ℕ) → count ≤ after + length page → AreLawfulTo (resources s) count
    page_lawful count within n low high = elim (cases_lt after n) [
      | inr old ↦ before n low (omega (arith, old))
      | inl on_page ↦
          let near = some_within page (n - suc after) (omega (arith, on_page, high, within)) in
          let found = holds.each (n - suc after) near.0 near.1 in
          let same : suc (after + (n - suc after)) ≡ n = omega (arith, on_page) in
          subst (IsLawfulAt (resources s)) same (lawful (suc (after + (n - suc after))) found.0 near.0 found.1 found.2)
    ]

-- a page that ends before its last number is followed by no row
pub page_ends : (table : List Row) (after last count : ℕ) (page : List StoredRecord) → HoldsPage table after last page → count ≡ min (after + length page) last → count < last → filter (has_rowid (pos (suc count))) table ≡ []
page_ends table after last count page holds is low = holds.none (suc count) (omega (arith, is, low)) (omega (arith, low))

-- what a page that was found on the way shows of the rows
pub page_step : (old mid : State) → Looks old mid → (HasCleanDisk old → IsTrue old.is_open → IsLaid old) → (HasCleanDisk old → IsTrue old.is_open → IsDatabase old.now) → (HasCleanDisk old → AreNumbered (resources old))
    → HasCleanDisk mid → IsTrue mid.is_open → (after last count : ℕ) (page given : List StoredRecord) → AreLawfulTo (resources old) after → HoldsPage (resources mid) after last page → given ≡ page → count ≡ min (after + length given) last
    → AreLawfulTo (resources old) count × (count < last → filter (has_rowid (pos (suc count))) (resources old) ≡ [])
page_step old mid looks laid sound numbered clean still after last count page given before holds same counted =
    let is : count ≡ min (after + length page) last = counted ∙ ap (λ (l : List StoredRecord). min (after + length l) last) same in
    let early = was_clean old mid looks laid clean in
    let was = (looks.keeps clean).was_open still in
    let held = subst (λ table. HoldsPage table after last page) (same_rows old mid looks laid clean still) holds in (
      page_lawful old (sound early was) (laid early was) (numbered early) after last page before held count (omega (arith, is)),
      page_ends (resources old) after last count page held is,
    )
