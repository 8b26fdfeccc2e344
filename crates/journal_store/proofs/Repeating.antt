-- Rows in order that don't rise: a number or a key is repeated.
use Rattle.std.proofs.Common.{◌≡◌, ◌<◌, ◌≤◌, ◌+◌, ℕ, suc, ℤ, Bool, true, false, cond, length, take, drop, get_or, List, [], ◌∷◌, ◌++◌, map, filter, Option, Some, None, Less, Equal, Greater, int_cmp, nat_cmp, refl, sym, ap, ◌∙◌, subst, inl, inr, append_assoc, IsPermutation, IsSortedBy, arith}
use Rattle.std.specs.Prelude.{MatchOption}
use Rattle.std.specs.Cmp.Lexicographic.{slice_cmp}
use Rattle.std.specs.List.{AllByRecursion, AllZip}
use Rattle.std.specs.List.Sorted.{IsStrictlySortedBy}
use Rattle.std.specs.Ordering.{is_eq, is_lt, ordering_reverse}
use Rattle.std.specs.Str.{bytes_eq}
use Rattle.std.specs.declared.cmp.Ordering.{Ordering}
use Rattle.std.proofs.Math.Seq.{drop-cons}
use Rattle.std.proofs.lemmas.Bool.{cases_Bool}
use Rattle.std.proofs.lemmas.Cmp.{tied_itself}
use Rattle.std.proofs.lemmas.List.{length-map, take-append-drop}
use Rattle.std.proofs.lemmas.List.Sorted.{length_permutation, IsPermutation-sym}
use Rattle.std.proofs.lemmas.Map.Text.{is_eq-slice_cmp}
use Rattle.std.proofs.lemmas.Slice.Eq.{bytes_eq-Decides}
use Rattle.sqlite_value.specs.declared.value.Value.{Value}
use Rattle.sqlite_value.specs.declared.value.Value.TheVariants.{Int, Text}
use Rattle.sqlite_value.specs.Order.{Row, column, value_cmp}
use Rattle.sqlite_value.proofs.OrderLemmas.{value_cmp_total, value_cmp-Int, value_cmp-Text}
use Rattle.sqlite_trees.specs.Tree.{rowid, has_rowid}
use Rattle.sqlite_trees.proofs.ListLemmas.{filter-map, filter_none, IsPermutation-filter}
use Rattle.sqlite_rules.specs.Lists.{Has}
use Rattle.sqlite_rules.proofs.ListLemmas.{has_at, has_right}
use Rattle.scim_key.specs.RecordOrder.{names_total}
use Rattle.scim_key.specs.Records.{name_cmp}
use Rattle.scim_key.specs.declared.records.Kind.{Kind}
use Rattle.scim_key.specs.declared.records.Kind.TheVariants.{User, Group}
use Rattle.scim_key.specs.declared.records.RecordName.{RecordName}
use Rattle.source_csv.specs.Records.{row_name}
use Rattle.journal_core.specs.declared.entries.Entry.{Entry}
use Rattle.sql_tables.proofs.Selecting.{IsOrdered}
use Rattle.journal_store.specs.Connections.{AreNumbered, FailsToRise, IsNotNext, IsUnshownBy, ListsAllBy, Shows, last_name}
use Rattle.journal_store.specs.Opening.{IsUnnumbered}
use Rattle.journal_store.proofs.Loading.{Sorted, has_map, names_of, permuted, zip_left}
use Rattle.journal_store.proofs.Numbering.{last_of}

-- the first column has this value, as SQLite compares them
abbrev pub begins : Value → Row → Bool
begins v r = is_eq (value_cmp (column r 0) v)

-- ---- rows in order

tail_sorted : {X : Type 0} (lt : X → X → Bool) (x : X) (xs : List X) → IsSortedBy lt (x ∷ xs) → IsSortedBy lt xs
tail_sorted lt x xs sorted k d low high =
    let step : suc k + 1 ≡ suc (k + 1) = omega arith in
    subst (λ n. lt (get_or (x ∷ xs) n d) (get_or xs k d) ≡ false) step (sorted (suc k) d (omega arith) (omega (arith, high)))

adjacent : (front : List Row) (first second : Row) (back : List Row) → IsOrdered (front ++ first ∷ second ∷ back) → is_lt (value_cmp (column second 0) (column first 0)) ≡ false
adjacent [] first second back sorted = sorted 0 first (omega arith) (omega arith)
adjacent (r ∷ front) first second back sorted = adjacent front first second back (tail_sorted (λ a b. is_lt (value_cmp (column a 0) (column b 0))) r (front ++ first ∷ second ∷ back) sorted)

tied : (v w : Value) → is_lt (value_cmp v w) ≡ false → is_lt (value_cmp w v) ≡ false → is_eq (value_cmp w v) ≡ true
tied v w = go (value_cmp w v) (value_cmp_total.antisymm v w)
  where
    go : (o : Ordering) → value_cmp v w ≡ ordering_reverse o → is_lt (value_cmp v w) ≡ false → is_lt o ≡ false → is_eq o ≡ true
    go Less is above below = absurd (cc)
    go Equal is above below = refl
    go Greater is above below = absurd (let clash : true ≡ false = sym (ap is_lt is) ∙ above in cc)

two_of : {X : Type 0} (p : X → Bool) (front : List X) (a b : X) (back : List X) → p a ≡ true → p b ≡ true → 2 ≤ length (filter p (front ++ a ∷ b ∷ back))
two_of p [] a b back one two = rw (one, two) (omega arith)
two_of p (x ∷ front) a b back one two = go (p x) (two_of p front a b back one two)
  where
    go : (t : Bool) → 2 ≤ length (filter p (front ++ a ∷ b ∷ back)) → 2 ≤ length (cond t (x ∷ filter p (front ++ a ∷ b ∷ back)) (filter p (front ++ a ∷ b ∷ back)))
    go true some = omega (arith, some)
    go false some = some

module _ (rows : List Row) (fails : FailsToRise rows) where
  stands_twice : IsOrdered rows → 2 ≤ length (filter (begins (column fails.first 0)) rows)
  stands_twice ordered =
      let v = column fails.first 0 in
      let one : begins v fails.first ≡ true = ap is_eq (tied_itself value_cmp_total v) in
      let two : begins v fails.second ≡ true = tied v (column fails.second 0) fails.not_below (adjacent fails.front fails.first fails.second fails.back (subst IsOrdered fails.is ordered)) in
      subst (λ l. 2 ≤ length (filter (begins v) l)) (sym fails.is) (two_of (begins v) fails.front fails.first fails.second fails.back one two)

  stands : Has rows fails.first
  stands = subst (λ l. Has l fails.first) (sym fails.is) (has_right fails.front (fails.first ∷ fails.second ∷ fails.back) fails.first (inl refl))

-- ---- numbers

module _ (table rows : List Row) (same : IsPermutation (map (λ (r : Row). rowid r ∷ []) table) rows) (are : AreNumbered table) where
  numbered_row : (r : Row) → Has rows r → (t : Row) × (n : ℤ) × (column r 0 ≡ Int n) × (filter (has_rowid n) table ≡ t ∷ [])
  numbered_row r there =
      let it = has_map (λ (q : Row). rowid q ∷ []) table r (permuted (map (λ (q : Row). rowid q ∷ []) table) rows r same there) in
      let number = are it.0 it.1 in
      (it.0, number.0, ap (λ (q : Row). column q 0) it.2 ∙ number.1, number.2)

  one_row : (n : ℤ) → length (filter (begins (Int n)) rows) ≡ length (filter (has_rowid n) table)
  one_row n =
      length_permutation (filter (begins (Int n)) (map (λ (q : Row). rowid q ∷ []) table)) (filter (begins (Int n)) rows) (IsPermutation-filter (begins (Int n)) (map (λ (q : Row). rowid q ∷ []) table) rows same)
      ∙ ap length (filter-map (begins (Int n)) (λ (q : Row). rowid q ∷ []) table) ∙ length-map (filter (has_rowid n) table) (λ (q : Row). rowid q ∷ [])

  pub are_numbers : IsOrdered rows → IsUnnumbered rows → ⊥
  are_numbers ordered (inl (r, there, none)) = let it = numbered_row r there in none it.1 it.2
  are_numbers ordered (inr fails) =
      let it = numbered_row fails.first (stands rows fails) in
      let twice = subst (λ v. 2 ≤ length (filter (begins v) rows)) it.2 (stands_twice rows fails ordered) in
      absurd (omega (arith, twice, one_row it.1, ap length it.3))

last_numbered : (rows : List Row) (numbers : List ℤ) (n : ℤ) → map (λ (r : Row). column r 0) rows ≡ map Int numbers → Some n ≡ last_of numbers
    → (front : List Row) × (q : Row) × (rows ≡ front ++ q ∷ []) × (column q 0 ≡ Int n)
last_numbered [] [] n shown is = absurd (cc)
last_numbered [] (m ∷ numbers) n shown is = absurd (cc)
last_numbered (r ∷ rows) [] n shown is = absurd (cc)
last_numbered (r ∷ []) (m ∷ []) n shown is = ([], r, refl, cc)
last_numbered (r ∷ []) (m ∷ k ∷ numbers) n shown is = absurd (cc)
last_numbered (r ∷ q ∷ rows) (m ∷ []) n shown is = absurd (cc)
last_numbered (r ∷ q ∷ rows) (m ∷ k ∷ numbers) n shown is =
    let rest : map (λ (p : Row). column p 0) (q ∷ rows) ≡ map Int (k ∷ numbers) = cc in
    let later = last_numbered (q ∷ rows) (k ∷ numbers) n rest is in (r ∷ later.0, later.1, λ i. r ∷ later.2 i, later.3)

-- rows up to one, that one, and the rest
parts : (rows : List Row) (at : ℕ) (row : Row) (front : List Row) (q : Row) → at < length rows → row ≡ get_or rows at row → take at rows ≡ front ++ q ∷ [] → rows ≡ front ++ q ∷ row ∷ drop (suc at) rows
parts rows at row front q low is ends =
    sym (take-append-drop at rows) ∙ ap (λ l. take at rows ++ l) (drop-cons rows at row low ∙ ap (λ r. r ∷ drop (suc at) rows) (sym is))
    ∙ ap (λ l. l ++ row ∷ drop (suc at) rows) ends ∙ append_assoc front (q ∷ []) (row ∷ drop (suc at) rows)

pub number_fails : (rows : List Row) (at : ℕ) (row : Row) (number : ℤ) (numbers : List ℤ) (last : Option ℤ) → at < length rows → row ≡ get_or rows at row → column row 0 ≡ Int number
    → map (λ (r : Row). column r 0) (take at rows) ≡ map Int numbers → last ≡ last_of numbers → MatchOption last ⊥ (λ n. is_lt (int_cmp n number) ≡ false) → FailsToRise rows
number_fails rows at row number numbers None low is shows shown last_is above = absurd above
number_fails rows at row number numbers (Some n) low is shows shown last_is above =
    let it = last_numbered (take at rows) numbers n shown last_is in record {
      front = it.0;
      first = it.1;
      second = row;
      back = drop (suc at) rows;
      is = parts rows at row it.0 it.1 low is it.2;
      not_below = (λ i. is_lt (value_cmp (it.3 i) (shows i))) ∙ ap is_lt (value_cmp-Int n number) ∙ above;
    }

-- ---- keys

pub compare_names : (kind : Kind) (a b : RecordName) → a.kind ≡ kind → b.kind ≡ kind → name_cmp a b ≡ slice_cmp nat_cmp a.key b.key
compare_names User a b first second = rw (first, second) refl
compare_names Group a b first second = rw (first, second) refl

-- given which valid entry a row shows
module _ (kind : Kind) (Valid : Row → Entry → Type 0) (keyed : (r : Row) (e : Entry) → Valid r e → (column r 0 ≡ Text (row_name e.row).key) × ((row_name e.row).kind ≡ kind)) where
  -- a row that begins with a key shows the record with this key
  named_by : (r : Row) (e : Entry) (key : List ℕ) → Valid r e → begins (Text key) r ≡ true → row_name e.row ≡ record { kind = kind; key = key }
  named_by r e key shows begun =
      let has = keyed r e shows in
      let same : bytes_eq (row_name e.row).key key ≡ true =
      sym (is_eq-slice_cmp (row_name e.row).key key) ∙ ap is_eq (sym (value_cmp-Text (row_name e.row).key key)) ∙ ap (λ v. is_eq (value_cmp v (Text key))) (sym has.0) ∙ begun in
      let key_is = (bytes_eq-Decides (row_name e.row).key key).0 same in
      λ i. record { kind = has.1 i; key = key_is i }

  not_below_itself : (name : RecordName) → name_cmp name name ≡ Less → ⊥
  not_below_itself name below = let clash : Equal ≡ Less = sym (tied_itself names_total name) ∙ below in cc

  keys_once : (key : List ℕ) (rows : List Row) (list : List Entry) → AllZip Valid rows list → Sorted (names_of list) → length (filter (begins (Text key)) rows) ≤ 1
  unfolding IsStrictlySortedBy
  keys_once key [] [] zip rising = omega arith
  keys_once key [] (e ∷ list) zip rising = absurd zip
  keys_once key (r ∷ rows) [] zip rising = absurd zip
  keys_once key (r ∷ rows) (e ∷ list) zip rising = go (begins (Text key) r) refl (keys_once key rows list zip.1 rising.1)
    where
      other : begins (Text key) r ≡ true → (q : Row) (f : Entry) → Valid q f → name_cmp (row_name e.row) (row_name f.row) ≡ Less → begins (Text key) q ≡ false
      other here q f shows below = elim (cases_Bool (begins (Text key) q)) [
        | inl there ↦ absurd (not_below_itself (row_name e.row) (ap (name_cmp (row_name e.row)) (named_by r e key zip.0 here ∙ sym (named_by q f key shows there)) ∙ below))
        | inr none ↦ none
      ]

      others : begins (Text key) r ≡ true → (qs : List Row) (fs : List Entry) → AllZip Valid qs fs → AllByRecursion (λ n. name_cmp (row_name e.row) n ≡ Less) (names_of fs) → AllByRecursion (λ q. begins (Text key) q ≡ false) qs
      others here [] [] shown below = tt
      others here [] (f ∷ fs) shown below = tt
      others here (q ∷ qs) [] shown below = absurd shown
      others here (q ∷ qs) (f ∷ fs) shown below = (other here q f shown.0 below.0, others here qs fs shown.1 below.1)

      go : (b : Bool) → begins (Text key) r ≡ b → length (filter (begins (Text key)) rows) ≤ 1 → length (cond b (r ∷ filter (begins (Text key)) rows) (filter (begins (Text key)) rows)) ≤ 1
      go true here later =
          let none : filter (begins (Text key)) rows ≡ [] = filter_none (begins (Text key)) rows (others here rows list zip.1 rising.0) in
          omega (arith, ap length none)
      go false here later = later

  module _ (columns : Row → Row) (table rows : List Row) (same : IsPermutation (map columns table) rows) (list : List Entry) (lists : ListsAllBy Valid columns table list) where
    listed_row : (r : Row) → Has rows r → (e : Entry) × Has list e × Valid r e
    listed_row r there =
        let all = map columns table in
        zip_left Valid lists.rows list r lists.shown.each (permuted lists.rows all r (IsPermutation-sym all lists.rows lists.all) (permuted all rows r same there))

    as_often : (v : Value) → length (filter (begins v) rows) ≡ length (filter (begins v) lists.rows)
    as_often v =
        let all = map columns table in
        length_permutation (filter (begins v) all) (filter (begins v) rows) (IsPermutation-filter (begins v) all rows same)
        ∙ sym (length_permutation (filter (begins v) all) (filter (begins v) lists.rows) (IsPermutation-filter (begins v) all lists.rows lists.all))

    pub are_listed : IsOrdered rows → IsUnshownBy Valid rows → ⊥
    are_listed ordered (inl (r, there, none)) = let it = listed_row r there in none it.0 it.2
    are_listed ordered (inr fails) =
        let it = listed_row fails.first (stands rows fails) in
        let key = (row_name it.0.row).key in
        let is : column fails.first 0 ≡ Text key = (keyed fails.first it.0 it.2).0 in
        let twice = subst (λ v. 2 ≤ length (filter (begins v) rows)) is (stands_twice rows fails ordered) in
        absurd (omega (arith, twice, as_often (Text key), keys_once key lists.rows list lists.shown.each lists.shown.rising))

  last_shown : (rows : List Row) (list : List Entry) (p : RecordName) → AllZip Valid rows list → Some p ≡ last_name (names_of list)
      → (front : List Row) × (q : Row) × (e : Entry) × (rows ≡ front ++ q ∷ []) × Valid q e × (row_name e.row ≡ p)
  last_shown [] [] p zip is = absurd (cc)
  last_shown [] (e ∷ list) p zip is = absurd zip
  last_shown (r ∷ rows) [] p zip is = absurd zip
  last_shown (r ∷ []) (e ∷ []) p zip is = ([], r, e, refl, zip.0, cc)
  last_shown (r ∷ []) (e ∷ f ∷ list) p zip is = absurd zip.1
  last_shown (r ∷ q ∷ rows) (e ∷ []) p zip is = absurd zip.1
  last_shown (r ∷ q ∷ rows) (e ∷ f ∷ list) p zip is =
      let later = last_shown (q ∷ rows) (f ∷ list) p zip.1 is in (r ∷ later.0, later.1, later.2, λ i. r ∷ later.3 i, later.4, later.5)

  pub key_fails : (rows : List Row) (at : ℕ) (row : Row) (entry : Entry) (list : List Entry) (previous : Option RecordName) (name : RecordName) → at < length rows → row ≡ get_or rows at row → AllZip Valid (take at rows) list
      → previous ≡ last_name (names_of list) → Valid row entry → name ≡ row_name entry.row → MatchOption previous ⊥ (λ p. is_lt (name_cmp p name) ≡ false) → FailsToRise rows
  key_fails rows at row entry list None name low is zip last shows name_is above = absurd above
  key_fails rows at row entry list (Some p) name low is zip last shows name_is above =
      let it = last_shown (take at rows) list p zip last in
      let first = keyed it.1 it.2 it.4 in
      let second = keyed row entry shows in
      let names : is_lt (name_cmp (row_name it.2.row) (row_name entry.row)) ≡ false = (λ i. is_lt (name_cmp (it.5 i) (sym name_is i))) ∙ above in record {
        front = it.0;
        first = it.1;
        second = row;
        back = drop (suc at) rows;
        is = parts rows at row it.0 it.1 low is it.3;
        not_below = (λ i. is_lt (value_cmp (first.0 i) (second.0 i))) ∙ ap is_lt (value_cmp-Text (row_name it.2.row).key (row_name entry.row).key)
            ∙ ap is_lt (sym (compare_names kind (row_name it.2.row) (row_name entry.row) first.1 second.1)) ∙ names;
      }

-- a row that isn't the next one
pub next_fails : (kind : Kind) (rows : List Row) (at : ℕ) (row : Row) (list : List Entry) (previous : Option RecordName) → at < length rows → row ≡ get_or rows at row → AllZip (Shows kind) (take at rows) list
    → previous ≡ last_name (names_of list) → IsNotNext kind previous row → IsUnshownBy (Shows kind) rows
next_fails kind rows at row list previous low is zip last (inl none) = inl (row, has_at rows at row low is, none)
next_fails kind rows at row list previous low is zip last (inr (entry, shows, above)) =
    inr (key_fails kind (Shows kind) (λ r e it. (it.key, it.kind_is)) rows at row entry list previous (row_name entry.row) low is zip last shows refl above)
