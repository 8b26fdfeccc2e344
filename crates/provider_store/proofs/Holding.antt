-- What a table of resources holds, before and after a row is put.
use Rattle.std.proofs.Common.{◌≡◌, ◌≢◌, ◌⊎◌, ◌==◌, ℕ, zero, suc, ◌+◌, ◌-◌, ◌<◌, ◌≤◌, pos, Bool, true, false, cond, List, [], ◌∷◌, ◌++◌, Some, None, length, filter, refl, sym, ap, ◌∙◌, subst, inl, inr, arith, length-append}
use Rattle.std.specs.Prelude.{slice_get, slice_set}
use Rattle.std.specs.List.{find, list_any, IsDistinct}
use Rattle.std.specs.Ordering.{int_eq}
use Rattle.std.proofs.lemmas.Bool.{cases_eq, cases_lt, false_from_ne_true}
use Rattle.std.proofs.lemmas.Bool.Decides.{Decides-int_eq}
use Rattle.std.proofs.lemmas.Option.{slice_get_within}
use Rattle.std.proofs.lemmas.Map.Keys.{IsDistinct-push}
use Rattle.sqlite_value.specs.declared.value.Value.TheVariants.{Int}
use Rattle.sqlite_value.specs.Order.{Row, column}
use Rattle.sqlite_trees.specs.Tree.{rowid, has_rowid, put_row, without_rowid}
use Rattle.sqlite_rules.specs.Edit.{is_taken}
use Rattle.sqlite_rules.specs.Lists.{Has}
use Rattle.sqlite_rules.proofs.ListLemmas.{has_filtered}
use Rattle.scim_key.specs.Identifiers.{last_number}
use Rattle.scim_key.specs.declared.records.Kind.{Kind}
use Rattle.scim_key.specs.declared.records.Kind.TheVariants.{User, Group}
use Rattle.scim_key.specs.declared.records.RecordName.{RecordName}
use Rattle.scim_resource.specs.Contents.{content_kind, content_name}
use Rattle.scim_resource.specs.Rows.{StoredRecord}
use Rattle.provider_core.specs.Rows.{same_name, is_named, row_named, has_number, row_numbered, with_row, IsNumberedFrom, names_of, AreNamedApart}
use Rattle.provider_core.specs.Stores.{HoldsNumber}
use Rattle.provider_core.proofs.RowLaws.{same_name-equivalence, numbers_same, find-passes}
use Rattle.provider_core.proofs.MemoryLaws.{found-at, update-sets, apart-none}
use Rattle.provider_core.proofs.TableLaws.{at_push}
use Rattle.provider_store.specs.Rows.{shown_row, row_of, stored_row, IsRowOf, kind_at, record_with, record_in, record_of_kind, record_at, rows_from, rows_of, Holds}
use Rattle.sql_tables.proofs.Trees.{put_other, put_here, without_here, without_other, free, one_rowid}
use Rattle.sql_tables.proofs.Values.{rowid_is}

-- ---- numbers

pub other_number : (m n : ℕ) → m ≢ n → int_eq (pos m) (pos n) ≡ false
other_number m n apart = false_from_ne_true _ (λ same. let e : pos m ≡ pos n = (Decides-int_eq (pos m) (pos n)).0 same in apart (let f : m ≡ n = cc in f))

pub same_number : (n : ℕ) → int_eq (pos n) (pos n) ≡ true
same_number n = (Decides-int_eq (pos n) (pos n)).1 refl

pub has_own : (r : Row) (n : ℕ) → rowid r ≡ Int (pos n) → has_rowid (pos n) r ≡ true
has_own r n is = rowid_is r (pos n) (pos n) is ∙ same_number n

pub has_other : (r : Row) (m n : ℕ) → rowid r ≡ Int (pos m) → m ≢ n → has_rowid (pos n) r ≡ false
has_other r m n is apart = rowid_is r (pos m) (pos n) is ∙ other_number m n apart

pub numbered_at : (m : ℕ) (rows : List StoredRecord) (k : ℕ) (s : StoredRecord) → IsNumberedFrom m rows → slice_get rows k ≡ Some s → s.number ≡ m + k
numbered_at m [] k s numbered at = absurd (cc)
numbered_at m (r ∷ rows) zero s numbered at = let same : r ≡ s = cc in ap (λ (x : StoredRecord). x.number) (sym same) ∙ omega (arith, numbered.0)
numbered_at m (r ∷ rows) (suc k) s numbered at = omega (arith, numbered_at (suc m) rows k s numbered.1 at)

pub numbered_append : (n : ℕ) (rows : List StoredRecord) (row : StoredRecord) → IsNumberedFrom n rows → row.number ≡ n + length rows → IsNumberedFrom n (rows ++ row ∷ [])
numbered_append n [] row numbered at = (omega arith, tt)
numbered_append n (r ∷ rs) row numbered at = (numbered.0, numbered_append (suc n) rs row numbered.1 (omega arith))

numbered_set : (n : ℕ) (rows : List StoredRecord) (i : ℕ) (held row : StoredRecord) → IsNumberedFrom n rows → slice_get rows i ≡ Some held → held.number ≡ row.number → IsNumberedFrom n (slice_set rows i row)
numbered_set n [] i held row numbered there same = tt
numbered_set n (r ∷ rs) zero held row numbered there same =
    let e : r ≡ held = cc in
    (sym same ∙ ap (λ (x : StoredRecord). x.number) (sym e) ∙ numbered.0, numbered.1)
numbered_set n (r ∷ rs) (suc i) held row numbered there same = (numbered.0, numbered_set (suc n) rs i held row numbered.1 there same)

-- ---- names

names_append : (rows : List StoredRecord) (row : StoredRecord) → names_of (rows ++ row ∷ []) ≡ names_of rows ++ content_name row.content ∷ []
names_append [] row = refl
names_append (r ∷ rs) row = ap (λ names. content_name r.content ∷ names) (names_append rs row)

free_name : (name : RecordName) (rows : List StoredRecord) → row_named name rows ≡ None → list_any (same_name name) (names_of rows) ≡ false
free_name name [] none = refl
free_name name (r ∷ rs) none = here (is_named name r) (free_name name rs) none
  where
    here : (b : Bool) → (row_named name rs ≡ None → list_any (same_name name) (names_of rs) ≡ false) → cond b (Some r) (row_named name rs) ≡ None → (Rattle.std.proofs.Common.◌||◌ b (list_any (same_name name) (names_of rs))) ≡ false
    here true ih was = absurd (cc)
    here false ih was = ih was

pub apart_append : (rows : List StoredRecord) (row : StoredRecord) → AreNamedApart rows → row_named (content_name row.content) rows ≡ None → AreNamedApart (rows ++ row ∷ [])
apart_append rows row apart none =
    subst (λ (names : List RecordName). IsDistinct same_name names) (sym (names_append rows row))
    (IsDistinct-push same_name-equivalence (names_of rows) (content_name row.content) apart (free_name (content_name row.content) rows none))

names_set : (rows : List StoredRecord) (i : ℕ) (held row : StoredRecord) → slice_get rows i ≡ Some held → content_name held.content ≡ content_name row.content → names_of (slice_set rows i row) ≡ names_of rows
names_set [] i held row there same = refl
names_set (r ∷ rs) zero held row there same =
    let e : r ≡ held = cc in
    ap (λ name. name ∷ names_of rs) (sym same ∙ ap (λ (x : StoredRecord). content_name x.content) (sym e))
names_set (r ∷ rs) (suc i) held row there same = ap (λ names. content_name r.content ∷ names) (names_set rs i held row there same)

-- ---- lists

set_at : {X : Type 0} (xs : List X) (i : ℕ) (x y : X) → slice_get xs i ≡ Some y → slice_get (slice_set xs i x) i ≡ Some x
set_at [] i x y there = absurd (cc)
set_at (z ∷ xs) zero x y there = refl
set_at (z ∷ xs) (suc i) x y there = set_at xs i x y there

set_other : {X : Type 0} (xs : List X) (i j : ℕ) (x : X) → i ≢ j → slice_get (slice_set xs i x) j ≡ slice_get xs j
set_other [] i j x apart = refl
set_other (z ∷ xs) zero zero x apart = absurd (apart refl)
set_other (z ∷ xs) zero (suc j) x apart = refl
set_other (z ∷ xs) (suc i) zero x apart = refl
set_other (z ∷ xs) (suc i) (suc j) x apart = set_other xs i j x (λ e. apart (ap suc e))

past : {X : Type 0} (xs : List X) (n : ℕ) → slice_get xs n ≡ None → length xs ≤ n
past [] n none = omega arith
past (x ∷ xs) zero none = absurd (cc)
past (x ∷ xs) (suc n) none = omega (arith, past xs n none)

pub none_past : {X : Type 0} (xs : List X) (n : ℕ) → length xs ≤ n → slice_get xs n ≡ None
none_past [] n far = refl
none_past (x ∷ xs) zero far = absurd (omega arith)
none_past (x ∷ xs) (suc n) far = none_past xs n (omega arith)

pub some_within : {X : Type 0} (xs : List X) (n : ℕ) → n < length xs → (x : X) × (slice_get xs n ≡ Some x)
some_within [] n near = absurd (omega arith)
some_within (x ∷ xs) zero near = (x, refl)
some_within (x ∷ xs) (suc n) near = some_within xs n (omega arith)

first_of : (p : Row → Bool) (rows : List Row) → find p rows ≡ slice_get (filter p rows) 0
first_of p [] = refl
first_of p (r ∷ rows) = elim (p r) as (λ b. cond b (Some r) (find p rows) ≡ slice_get (cond b (r ∷ filter p rows) (filter p rows)) 0) [ true ↦ refl | false ↦ first_of p rows ]

-- ---- the record that a row shows

kind_of_code : (s : StoredRecord) (kind : Kind) → content_kind s.content ≡ kind → kind_at (Int (pos (Rattle.provider_store.specs.Rows.kind_code kind))) ≡ Some kind
kind_of_code s User is = refl
kind_of_code s Group is = refl

pub shown_record : (r : Row) (s : StoredRecord) → IsRowOf r s → record_in r ≡ Some s
shown_record r s it =
    rw it.shows (ap (record_of_kind (row_of s it.text)) (kind_of_code s (content_kind s.content) refl) ∙ ap (record_with s.number s.version) it.reads)

pub stored_shows : (s : StoredRecord) (text : List ℕ) → shown_row (stored_row s text) ≡ row_of s text
stored_shows s text = refl

-- ---- the records of a table

module _ (table : List Row) (rows : List StoredRecord) (holds : Holds table rows) where
  pub record_here : (n : ℕ) (s : StoredRecord) → slice_get rows n ≡ Some s → record_at (suc n) table ≡ Some s
  record_here n s at =
      let it = holds.each n s at in
      let first : find (has_rowid (pos (suc n))) table ≡ Some it.0 = first_of (has_rowid (pos (suc n))) table ∙ ap (λ l. slice_get l 0) it.1 in
      rw first (shown_record (shown_row it.0) s it.2)

  record_none : (n : ℕ) → slice_get rows n ≡ None → record_at (suc n) table ≡ None
  record_none n at =
      let first : find (has_rowid (pos (suc n))) table ≡ None = first_of (has_rowid (pos (suc n))) table ∙ ap (λ l. slice_get l 0) (holds.none n at) in
      rw first refl

  rest_is : (most n : ℕ) (rest : List StoredRecord) → ((i : ℕ) → slice_get rest i ≡ slice_get rows (n + i)) → length rest ≤ most → rows_from most (suc n) table ≡ rest
  unfolding rows_from
  rest_is zero n [] at few = refl
  rest_is zero n (s ∷ rest) at few = absurd (omega arith)
  rest_is (suc most) n [] at few = rw (record_none n (let e : n + 0 ≡ n = omega arith in sym (at 0 ∙ ap (slice_get rows) e))) refl
  rest_is (suc most) n (s ∷ rest) at few =
      let here : slice_get rows n ≡ Some s = let e : n + 0 ≡ n = omega arith in sym (at 0 ∙ ap (slice_get rows) e) in
      let later = rest_is most (suc n) rest (λ i. at (suc i) ∙ ap (slice_get rows) (omega arith)) (omega arith) in
      rw (record_here n s here) (ap (λ l. s ∷ l) later)

  pub few : length rows ≤ last_number
  few = elim (cases_lt 0 (length rows)) [
    | inl some ↦
        let last = some_within rows (length rows - 1) (omega arith) in
        let s = last.0 in
        let it = holds.each (length rows - 1) s last.1 in
        omega (arith, numbered_at 1 rows (length rows - 1) s holds.numbered last.1, it.2.lawful.number_within)
    | inr none ↦ omega arith
  ]

  -- they are those that it holds
  pub held_rows : rows_of table ≡ rows
  unfolding rows_of
  held_rows = rest_is last_number 0 rows (λ i. ap (slice_get rows) (omega arith)) few

pub holds_nothing : Holds [] []
holds_nothing = record { numbered = tt; apart = apart-none; each = λ n s at. absurd (cc); none = λ n at. refl }

-- ---- a row joins

module _ (table : List Row) (rows : List StoredRecord) (s : StoredRecord) (new : Row) (holds : Holds table rows) (is : rowid new ≡ Int (pos s.number)) (shows : IsRowOf (shown_row new) s)
    (next : s.number ≡ length rows + 1) where
  pub not_taken : is_taken table new ≡ false
  not_taken =
      let at : s.number ≡ suc (length rows) = omega arith in
      free (pos s.number) new table is (subst (λ n. filter (has_rowid (pos n)) table ≡ []) (sym at) (holds.none (length rows) (none_past rows (length rows) (omega arith))))

  pub joined : row_named (content_name s.content) rows ≡ None → Holds (put_row new table) (rows ++ s ∷ [])
  joined none = record {
    numbered = numbered_append 1 rows s holds.numbered (omega arith);
    apart = apart_append rows s holds.apart none;
    each = λ n x at. elim (at_push rows s n x at) [
      | inl old ↦
          let it = holds.each n x old in
          let near = slice_get_within rows n x old in
          (it.0, put_other (has_rowid (pos (suc n))) new table (has_other new s.number (suc n) is (λ e. absurd (omega (arith, e, near)))) not_taken ∙ it.1, it.2)
      | inr last ↦
          let e : suc n ≡ s.number = omega (arith, last.0) in
          let own : has_rowid (pos (suc n)) new ≡ true = subst (λ k. has_rowid (pos k) new ≡ true) (sym e) (has_own new s.number is) in
          (new, put_here (has_rowid (pos (suc n))) new table own (holds.none n (none_past rows n (omega (arith, last.0)))), subst (IsRowOf (shown_row new)) last.1 shows)
    ];
    none = λ n at.
        let far = past (rows ++ s ∷ []) n at in
        put_other (has_rowid (pos (suc n))) new table (has_other new s.number (suc n) is (λ e. absurd (omega (arith, e, far, length-append rows (s ∷ []))))) not_taken
        ∙ holds.none n (none_past rows n (omega (arith, far, length-append rows (s ∷ []))));
  }

-- ---- a row is replaced

pub held_at : (rows : List StoredRecord) (row : StoredRecord) (held : StoredRecord) → IsNumberedFrom 1 rows → row_numbered row.number rows ≡ Some held
    → (held.number ≡ row.number) × (1 ≤ row.number) × (slice_get rows (row.number - 1) ≡ Some held)
held_at rows row held numbered there =
    let same = numbers_same held.number row.number (find-passes (has_number row.number) rows held there) in
    let at = found-at (has_number row.number) 1 rows held numbered there in
    (same, omega (arith, at.0), ap (λ n. slice_get rows (n - 1)) (sym same) ∙ at.1)

module _ (table : List Row) (rows : List StoredRecord) (s : StoredRecord) (new : Row) (holds : Holds table rows) (is : rowid new ≡ Int (pos s.number)) (shows : IsRowOf (shown_row new) s)
    (there : HoldsNumber rows s) where
  left : List Row
  left = without_rowid (pos s.number) table

  at : (there.held.number ≡ s.number) × (1 ≤ s.number) × (slice_get rows (s.number - 1) ≡ Some there.held)
  at = held_at rows s there.held holds.numbered there.there

  pub still_free : is_taken (without_rowid (pos s.number) table) new ≡ false
  still_free = free (pos s.number) new (without_rowid (pos s.number) table) is (without_here (pos s.number) table)

  elsewhere : (n : ℕ) → suc n ≢ s.number → filter (has_rowid (pos (suc n))) (put_row new (without_rowid (pos s.number) table)) ≡ filter (has_rowid (pos (suc n))) table
  elsewhere n apart =
      put_other (has_rowid (pos (suc n))) new (without_rowid (pos s.number) table) (has_other new s.number (suc n) is (λ e. apart (sym e))) still_free
      ∙ without_other (has_rowid (pos (suc n))) (pos s.number) (λ r has. one_rowid r (pos (suc n)) (pos s.number) has (other_number (suc n) s.number apart)) table

  pub replaced : Holds (put_row new (without_rowid (pos s.number) table)) (with_row s rows)
  replaced =
      let sets = update-sets rows s holds.numbered there in
      let held = at.2 in
      let made : Holds (put_row new (without_rowid (pos s.number) table)) (slice_set rows (s.number - 1) s) = record {
        numbered = numbered_set 1 rows (s.number - 1) there.held s holds.numbered held at.0;
        apart = subst (λ (names : List RecordName). IsDistinct same_name names) (sym (names_set rows (s.number - 1) there.held s held there.name)) holds.apart;
        each = λ n x got. elim (cases_eq (s.number - 1) n) [
          | inl same ↦
              let e : suc n ≡ s.number = omega (arith, at.1) in
              let own : has_rowid (pos (suc n)) new ≡ true = subst (λ k. has_rowid (pos k) new ≡ true) (sym e) (has_own new s.number is) in
              let gone : filter (has_rowid (pos (suc n))) (without_rowid (pos s.number) table) ≡ [] = subst (λ k. filter (has_rowid (pos k)) (without_rowid (pos s.number) table) ≡ []) (sym e) (without_here (pos s.number) table) in
              let here : slice_get (slice_set rows (s.number - 1) s) n ≡ Some s = subst (λ k. slice_get (slice_set rows (s.number - 1) s) k ≡ Some s) same (set_at rows (s.number - 1) s there.held held) in
              let which : s ≡ x = let both : Some s ≡ Some x = sym here ∙ got in cc in
              (new, put_here (has_rowid (pos (suc n))) new (without_rowid (pos s.number) table) own gone, subst (IsRowOf (shown_row new)) which shows)
          | inr apart ↦
              let it = holds.each n x (sym (set_other rows (s.number - 1) n s apart) ∙ got) in
              (it.0, elsewhere n (λ e. apart (omega (arith, e))) ∙ it.1, it.2)
        ];
        none = λ n got. elim (cases_eq (s.number - 1) n) [
          | inl same ↦ absurd (let here : slice_get (slice_set rows (s.number - 1) s) n ≡ Some s = subst (λ k. slice_get (slice_set rows (s.number - 1) s) k ≡ Some s) same (set_at rows (s.number - 1) s there.held held) in let clash : Some s ≡ None = sym here ∙ got in cc)
          | inr apart ↦ elsewhere n (λ e. apart (omega (arith, e))) ∙ holds.none n (sym (set_other rows (s.number - 1) n s apart) ∙ got)
        ];
      } in
      subst (Holds (put_row new (without_rowid (pos s.number) table))) sets made

-- ---- the number of a row

-- the row that is found by a number shows it
pub number_of : (r : Row) (s : StoredRecord) (n : ℕ) (table : List Row) → IsRowOf (shown_row r) s → filter (has_rowid (pos n)) table ≡ r ∷ [] → rowid r ≡ Int (pos n)
number_of r s n table it only =
    let own : rowid r ≡ Int (pos s.number) = ap (λ row. column row 0) it.shows in
    let found = (has_filtered (has_rowid (pos n)) table r (subst (λ l. Has l r) (sym only) (inl refl))).1 in
    own ∙ ap Int ((Decides-int_eq (pos s.number) (pos n)).0 (sym (rowid_is r (pos s.number) (pos n) own) ∙ found))
