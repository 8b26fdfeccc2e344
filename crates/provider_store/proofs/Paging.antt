-- The rows that the query for a page finds, in the table and among the records that it holds.
use Rattle.std.proofs.Common.{◌≡◌, ◌⊎◌, ◌<◌, ◌≤◌, ◌+◌, ℕ, zero, suc, nat_lt, pos, int_cmp, Bool, true, false, ◌&&◌, cond, List, [], ◌∷◌, ◌++◌, map, filter, length, take, drop, ℤ, Option, Some, None, IfSome, IfNone, Less, Equal, Greater, Ordering, refl, sym, ap, ◌∙◌, subst, inl, inr, append_assoc, arith, IsPermutation}
use Rattle.std.specs.Prelude.{slice_get}
use Rattle.std.specs.Ordering.{is_eq, is_ge, is_le}
use Rattle.std.proofs.lemmas.Bool.{and_parts, and_from, cases_lt, false_from_ne_true}
use Rattle.std.proofs.lemmas.Bool.Decides.{Decides-ltb}
use Rattle.std.proofs.lemmas.List.{take-append-drop}
use Rattle.sqlite_value.specs.declared.value.Value.{Value}
use Rattle.sqlite_value.specs.declared.value.Value.TheVariants.{Null, Int, Real, Text, Blob}
use Rattle.sqlite_value.specs.declared.keys.Collation.TheVariants.{Binary}
use Rattle.sqlite_value.specs.Order.{Row, column, value_cmp}
use Rattle.sqlite_value.proofs.OrderLemmas.{value_cmp_total, value_cmp-Int, value_cmp-Null}
use Rattle.sqlite_sql.specs.Ops.{binary, is_true, from_truth}
use Rattle.sqlite_sql.specs.Term.{col}
use Rattle.sqlite_sql.specs.declared.ops.BinaryOp.TheVariants.{Compare}
use Rattle.sqlite_sql.specs.declared.ops.CompareOp.TheVariants.{Le, Ge}
use Rattle.sqlite_trees.specs.Tree.{rowid, has_rowid}
use Rattle.sqlite_trees.proofs.ListLemmas.{filter_same, filter-map, all_of, IsPermutation-filter}
use Rattle.sqlite_rules.specs.Lists.{Has}
use Rattle.sqlite_rules.proofs.ListLemmas.{has_filtered}
use Rattle.sqlite.specs.State.{State}
use Rattle.scim_resource.specs.Rows.{StoredRecord}
use Rattle.provider_store.specs.Format.{page_text}
use Rattle.provider_store.specs.Rows.{shown_row, IsRowOf, Holds}
use Rattle.provider_store.specs.Connections.{IsLaid, FindsNumber, is_between, IsRange, AreRowsFrom, HoldsPage, IsBroken, resources}
use Rattle.provider_store.specs.declared.tables.Found.TheVariants.{There}
use Rattle.provider_store.proofs.Texts.{page_terms, page_is, shown_terms}
use Rattle.provider_store.proofs.Finding.{some_at, same_some}
use Rattle.provider_store.proofs.Holding.{has_own, has_other, shown_record}
use Rattle.sql_tables.proofs.Answering.{answered_by, read_as, empty, single}
use Rattle.sql_tables.proofs.Selecting.{from_answer, ordered_over, passes}
use Rattle.sql_tables.specs.Statements.{Answers}

-- ---- the test of the query

both_are : (a b : Bool) → (is_true (from_truth (Some a)) && (is_true (from_truth (Some b)) && true)) ≡ (a && b)
both_are true true = refl
both_are true false = refl
both_are false true = refl
both_are false false = refl

tests_of : (first last : ℕ) (v : Value) → (is_true (binary (Compare Ge Binary) v (Int (pos first))) && (is_true (binary (Compare Le Binary) v (Int (pos last))) && true)) ≡ is_between first last v
unfolding binary
tests_of first last Null = refl
tests_of first last (Int m) = both_are (is_ge (value_cmp (Int m) (Int (pos first)))) (is_le (value_cmp (Int m) (Int (pos last))))
tests_of first last (Real x) = both_are (is_ge (value_cmp (Real x) (Int (pos first)))) (is_le (value_cmp (Real x) (Int (pos last))))
tests_of first last (Text t) = both_are (is_ge (value_cmp (Text t) (Int (pos first)))) (is_le (value_cmp (Text t) (Int (pos last))))
tests_of first last (Blob b) = both_are (is_ge (value_cmp (Blob b) (Int (pos first)))) (is_le (value_cmp (Blob b) (Int (pos last))))

page_tests : (first last : ℕ) (r : Row) → passes page_terms (Int (pos first) ∷ Int (pos last) ∷ []) r ≡ is_between first last (rowid r)
page_tests first last r = tests_of first last (column r 0)

-- the rows of the answer
pub range_of : (s : State) (first last : ℕ) (rows : List Row) → IsLaid s → Answers page_text (Int (pos first) ∷ Int (pos last) ∷ []) s rows → IsRange (resources s) first last rows
range_of s first last rows laid answers =
    let params : Row = Int (pos first) ∷ Int (pos last) ∷ [] in
    let same = filter_same (passes page_terms params) (λ r. is_between first last (rowid r)) (resources s) (all_of (λ r. passes page_terms params r ≡ is_between first last (rowid r)) (λ r. page_tests first last r) (resources s)) in
    record {
      same = subst (λ l. IsPermutation (map shown_row l) rows) same (answered_by s params rows page_is laid answers (λ _. refl));
      ordered = ordered_over 1 page_terms shown_terms (col 1 0) params (λ _. refl) s.now rows (read_as s params rows page_is laid answers);
    }

-- ---- a number of the page

not_below : (k n : ℕ) → n ≤ k → is_ge (int_cmp (pos k) (pos n)) ≡ true
not_below k n low =
    let never = false_from_ne_true _ (λ (less : nat_lt k n ≡ true). absurd (omega (arith, (Decides-ltb k n).0 less, low))) in
    rw never (elim (nat_lt n k) as (λ b. is_ge (cond b Greater Equal) ≡ true) [ true ↦ refl | false ↦ refl ])

not_above : (k n : ℕ) → k ≤ n → is_le (int_cmp (pos k) (pos n)) ≡ true
not_above k n high =
    let never = false_from_ne_true _ (λ (less : nat_lt n k ≡ true). absurd (omega (arith, (Decides-ltb n k).0 less, high))) in
    rw never (elim (nat_lt k n) as (λ b. is_le (cond b Less Equal) ≡ true) [ true ↦ refl | false ↦ refl ])

above : (k n : ℕ) → n < k → is_le (int_cmp (pos k) (pos n)) ≡ false
above k n low =
    let not_less = false_from_ne_true _ (λ (less : nat_lt k n ≡ true). absurd (omega (arith, (Decides-ltb k n).0 less, low))) in
    rw (not_less, (Decides-ltb n k).1 low) refl

equal_from : (o : Ordering) → is_eq o ≡ true → o ≡ Equal
equal_from Less same = absurd (cc)
equal_from Equal same = refl
equal_from Greater same = absurd (cc)

compared : (v : Value) (k n : ℕ) → is_eq (value_cmp v (Int (pos k))) ≡ true → value_cmp v (Int (pos n)) ≡ int_cmp (pos k) (pos n)
compared v k n same = value_cmp_total.congr v (Int (pos k)) (Int (pos n)) (equal_from _ same) ∙ value_cmp-Int (pos k) (pos n)

both_ways : (v : Value) (first last k : ℕ) → first ≤ k → k ≤ last → is_eq (value_cmp v (Int (pos k))) ≡ true → (is_ge (value_cmp v (Int (pos first))) && is_le (value_cmp v (Int (pos last)))) ≡ true
both_ways v first last k low high same =
    and_from _ _ (ap is_ge (compared v k first same) ∙ not_below k first low) (ap is_le (compared v k last same) ∙ not_above k last high)

between : (v : Value) (first last k : ℕ) → first ≤ k → k ≤ last → is_eq (value_cmp v (Int (pos k))) ≡ true → is_between first last v ≡ true
between Null first last k low high same = absurd (let never = sym same ∙ ap is_eq (value_cmp-Null (Int (pos k))) in cc)
between (Int m) first last k low high same = both_ways (Int m) first last k low high same
between (Real x) first last k low high same = both_ways (Real x) first last k low high same
between (Text t) first last k low high same = both_ways (Text t) first last k low high same
between (Blob b) first last k low high same = both_ways (Blob b) first last k low high same

within : (first last k : ℕ) → is_between first last (Int (pos k)) ≡ true → k ≤ last
within first last k is = elim (cases_lt last k) [
  | inl over ↦ absurd (let parts = and_parts (is_ge (value_cmp (Int (pos k)) (Int (pos first)))) (is_le (value_cmp (Int (pos k)) (Int (pos last)))) is in let clash : true ≡ false = sym parts.1 ∙ ap is_le (value_cmp-Int (pos k) (pos last)) ∙ above k last over in cc)
  | inr not_over ↦ omega (arith, not_over)
]

-- ---- the rows that show the records

shown_none : (m : ℕ) (rows : List Row) (page : List StoredRecord) (k : ℕ) → AreRowsFrom m rows page → (k < m) ⊎ (m + length page ≤ k) → filter (has_rowid (pos k)) rows ≡ []
shown_none m [] [] k shows away = refl
shown_none m [] (s ∷ page) k shows away = absurd shows
shown_none m (r ∷ rows) [] k shows away = absurd shows
shown_none m (r ∷ rows) (s ∷ page) k shows away =
    let number : rowid r ≡ Int (pos s.number) = ap (λ row. column row 0) shows.0.shows in
    let other : has_rowid (pos k) r ≡ false = has_other r s.number k number (λ same. elim away [ inl low ↦ absurd (omega (arith, shows.1, same, low)) | inr high ↦ absurd (omega (arith, shows.1, same, high)) ]) in
    rw other (shown_none (suc m) rows page k shows.2 (elim away [ inl low ↦ inl (omega (arith, low)) | inr high ↦ inr (omega (arith, high)) ]))

shown_at : (m : ℕ) (rows : List Row) (page : List StoredRecord) (n : ℕ) (s : StoredRecord) → AreRowsFrom m rows page → slice_get page n ≡ Some s
    → (r : Row) × (filter (has_rowid (pos (m + n))) rows ≡ r ∷ []) × IsRowOf r s × (s.number ≡ m + n)
shown_at m [] [] n s shows at = absurd (cc)
shown_at m [] (t ∷ page) n s shows at = absurd shows
shown_at m (r ∷ rows) [] n s shows at = absurd shows
shown_at m (r ∷ rows) (t ∷ page) zero s shows at =
    let same : t ≡ s = cc in
    let first : t.number ≡ m + 0 = omega (arith, shows.1) in
    let own : has_rowid (pos (m + 0)) r ≡ true = subst (λ k. has_rowid (pos k) r ≡ true) first (has_own r t.number (ap (λ row. column row 0) shows.0.shows)) in
    (r, rw own (ap (λ l. r ∷ l) (shown_none (suc m) rows page (m + 0) shows.2 (inl (omega arith)))), subst (IsRowOf r) same shows.0, ap (λ (x : StoredRecord). x.number) (sym same) ∙ first)
shown_at m (r ∷ rows) (t ∷ page) (suc n) s shows at =
    let later = shown_at (suc m) rows page n s shows.2 at in
    let e : suc m + n ≡ m + suc n = omega arith in
    let other : has_rowid (pos (m + suc n)) r ≡ false = has_other r t.number (m + suc n) (ap (λ row. column row 0) shows.0.shows) (λ same. absurd (omega (arith, same, shows.1))) in
    (later.0, rw other (ap (λ k. filter (has_rowid (pos k)) rows) (sym e) ∙ later.1), later.2, later.3 ∙ e)

-- ---- the page in the table

narrowed : (p q : Row → Bool) → ((r : Row) → q r ≡ true → p r ≡ true) → (rows : List Row) → filter q (filter p rows) ≡ filter q rows
narrowed p q weaker [] = refl
narrowed p q weaker (r ∷ rows) = go (p r) (q r) refl refl (narrowed p q weaker rows)
  where
    go : (b c : Bool) → p r ≡ b → q r ≡ c → filter q (filter p rows) ≡ filter q rows → filter q (cond b (r ∷ filter p rows) (filter p rows)) ≡ cond c (r ∷ filter q rows) (filter q rows)
    go true c is other ih = rw other (ap (λ l. cond c (r ∷ l) l) ih)
    go false true is other ih = absurd (let clash = sym is ∙ weaker r other in cc)
    go false false is other ih = ih

module _ (table : List Row) (after last : ℕ) (rows : List Row) (page : List StoredRecord) (range : IsRange table (suc after) last rows) (shows : AreRowsFrom (suc after) rows page) where
  with_number : (k : ℕ) → after < k → k ≤ last → IsPermutation (map shown_row (filter (has_rowid (pos k)) table)) (filter (has_rowid (pos k)) rows)
  with_number k low high =
      let P : Row → Bool = λ r. is_between (suc after) last (rowid r) in
      let Q : Row → Bool = has_rowid (pos k) in
      subst (λ l. IsPermutation l (filter Q rows))
      (filter-map Q shown_row (filter P table) ∙ ap (map shown_row) (narrowed P Q (λ r has. between (rowid r) (suc after) last k (omega (arith, low)) high has) table))
      (IsPermutation-filter Q (map shown_row (filter P table)) rows range.same)

  on_page : (n : ℕ) (s : StoredRecord) → slice_get page n ≡ Some s → FindsNumber table (suc (after + n)) (There s)
  on_page n s at =
      let k : ℕ = suc (after + n) in
      let it = shown_at (suc after) rows page n s shows at in
      let only = subst (λ j. filter (has_rowid (pos j)) rows ≡ it.0 ∷ []) (let e : suc after + n ≡ suc (after + n) = omega arith in e) it.1 in
      let there = (has_filtered (has_rowid (pos k)) rows it.0 (subst (λ l. Has l it.0) (sym only) (inl refl))).0 in
      let own = from_answer (λ r. is_between (suc after) last (rowid r)) shown_row table rows range.same it.0 there in
      let number : rowid own.0 ≡ Int (pos s.number) = sym (ap (λ row. column row 0) own.3) ∙ ap (λ row. column row 0) it.2.shows in
      let high = within (suc after) last s.number (subst (λ v. is_between (suc after) last v ≡ true) number own.2) in
      let one = single shown_row (filter (has_rowid (pos k)) table) it.0 (subst (IsPermutation (map shown_row (filter (has_rowid (pos k)) table))) only (with_number k (omega arith) (omega (arith, high, it.3)))) in
      (one.0, one.1, subst (λ r. IsRowOf r s) one.2 it.2)

  pub page_held : HoldsPage table after last page
  page_held = record {
    each = on_page;
    none = λ n over high. empty shown_row (filter (has_rowid (pos n)) table)
        (subst (IsPermutation (map shown_row (filter (has_rowid (pos n)) table))) (shown_none (suc after) rows page n shows (inr (omega (arith, over)))) (with_number n (omega (arith, over)) high));
  }

-- ---- of the values that a call gave

if_some : {T : Type 0} {P Q : T → Type 0} (o : Option T) → ((x : T) → P x → Q x) → IfSome o P → IfSome o Q
if_some None h it = tt
if_some (Some x) h it = h x it

if_none : {T : Type 0} {P Q : Type 0} (o : Option T) → (P → Q) → IfNone o P → IfNone o Q
if_none None h it = h it
if_none (Some x) h it = tt

module _ (s : State) (after last : ℕ) (low high : ℤ) (rows given : List Row) (lows : low ≡ pos (suc after)) (highs : high ≡ pos last) (same : given ≡ rows) (laid : IsLaid s)
    (answers : Answers page_text (Int low ∷ Int high ∷ []) s rows) where
  found_range : IsRange (resources s) (suc after) last rows
  found_range = range_of s (suc after) last rows laid (subst (λ k. Answers page_text (Int (pos (suc after)) ∷ Int k ∷ []) s rows) highs (subst (λ k. Answers page_text (Int k ∷ Int high ∷ []) s rows) lows answers))

  pub page_found : {T : Type 0} (items : T → List StoredRecord) (page : Option T) → IfSome page (λ p. AreRowsFrom (suc after) given (items p)) → IfSome page (λ p. HoldsPage (resources s) after last (items p))
  page_found items page = if_some page (λ p shows. page_held (resources s) after last rows (items p) found_range (subst (λ l. AreRowsFrom (suc after) l (items p)) same shows))

  pub page_broken : {T : Type 0} (page : Option T) → IfNone page ((records : List StoredRecord) → AreRowsFrom (suc after) given records → ⊥) → IfNone page (IsBroken (resources s) after last)
  page_broken page =
      if_none page (λ unread. record { rows = rows; range = found_range; unread = λ records shows. unread records (subst (λ l. AreRowsFrom (suc after) l records) (sym same) shows) })

-- ---- the page among the records

drop_at : {X : Type 0} (xs : List X) (n : ℕ) (x : X) → slice_get xs n ≡ Some x → drop n xs ≡ x ∷ drop (suc n) xs
drop_at [] n x at = absurd (cc)
drop_at (y ∷ xs) zero x at = (let same : y ≡ x = cc in ap (λ z. z ∷ xs) same)
drop_at (y ∷ xs) (suc n) x at = drop_at xs n x at

dropped : {X : Type 0} (xs page : List X) (after : ℕ) → ((n : ℕ) (x : X) → slice_get page n ≡ Some x → slice_get xs (after + n) ≡ Some x) → page ≡ take (length page) (drop after xs)
dropped xs [] after at = refl
dropped xs (x ∷ page) after at =
    let e : after + 0 ≡ after = omega arith in
    let here : slice_get xs after ≡ Some x = ap (slice_get xs) (sym e) ∙ at 0 x refl in
    rw (drop_at xs after x here) (ap (λ l. x ∷ l) (dropped xs page (suc after) (λ n y is. ap (slice_get xs) (omega arith) ∙ at (suc n) y is)))

-- they are those that the table holds
pub held_page : (table : List Row) (records page : List StoredRecord) (after last : ℕ) → Holds table records → HoldsPage table after last page → page ≡ take (length page) (drop after records)
held_page table records page after last holds it = dropped records page after (λ n s at. some_at table records holds (after + n) s (it.each n s at))

-- ---- the rows one after the other

pub next_row : (m : ℕ) (rows : List Row) (page : List StoredRecord) (r : Row) (s : StoredRecord) → AreRowsFrom m rows page → IsRowOf r s → s.number ≡ m + length page → AreRowsFrom m (rows ++ r ∷ []) (page ++ s ∷ [])
next_row m [] [] r s shows it number = (it, omega (arith, number), tt)
next_row m [] (t ∷ page) r s shows it number = absurd shows
next_row m (q ∷ rows) [] r s shows it number = absurd shows
next_row m (q ∷ rows) (t ∷ page) r s shows it number = (shows.0, shows.1, next_row (suc m) rows page r s shows.2 it (omega (arith, number)))

same_record : (r : Row) (s t : StoredRecord) → IsRowOf r s → IsRowOf r t → s ≡ t
same_record r s t one other = same_some s t (sym (shown_record r s one) ∙ shown_record r t other)

-- a row that doesn't show the next record breaks the page
broken_at : (m : ℕ) (rows : List Row) (page : List StoredRecord) (r : Row) (rest : List Row) → AreRowsFrom m rows page → ((s : StoredRecord) → IsRowOf r s → s.number ≡ m + length page → ⊥)
    → (records : List StoredRecord) → AreRowsFrom m (rows ++ r ∷ rest) records → ⊥
broken_at m [] [] r rest shows none [] are = are
broken_at m [] [] r rest shows none (s ∷ records) are = none s are.0 (omega (arith, are.1))
broken_at m [] (t ∷ page) r rest shows none records are = absurd shows
broken_at m (q ∷ rows) [] r rest shows none records are = absurd shows
broken_at m (q ∷ rows) (t ∷ page) r rest shows none [] are = are
broken_at m (q ∷ rows) (t ∷ page) r rest shows none (s ∷ records) are = broken_at (suc m) rows page r rest shows.2 (λ x it number. none x it (omega (arith, number))) records are.2

pub parted : (rows : List Row) (i : ℕ) (r : Row) → take (i + 1) rows ≡ take i rows ++ r ∷ [] → rows ≡ take i rows ++ r ∷ drop (i + 1) rows
parted rows i r more = sym (take-append-drop (i + 1) rows) ∙ ap (λ l. l ++ drop (i + 1) rows) more ∙ append_assoc (take i rows) (r ∷ []) (drop (i + 1) rows)

module _ (m : ℕ) (rows : List Row) (page : List StoredRecord) (r : Row) (rest all : List Row) (is : all ≡ rows ++ r ∷ rest) (shows : AreRowsFrom m rows page) where
  pub broken_unread : ((s : StoredRecord) → IsRowOf r s → ⊥) → (records : List StoredRecord) → AreRowsFrom m all records → ⊥
  broken_unread none records are = broken_at m rows page r rest shows (λ s it _. none s it) records (subst (λ l. AreRowsFrom m l records) is are)

  pub broken_apart : (s : StoredRecord) → IsRowOf r s → (s.number ≡ m + length page → ⊥) → (records : List StoredRecord) → AreRowsFrom m all records → ⊥
  broken_apart s it apart records are = broken_at m rows page r rest shows (λ t other number. apart (ap (λ (x : StoredRecord). x.number) (same_record r s t it other) ∙ number)) records (subst (λ l. AreRowsFrom m l records) is are)
