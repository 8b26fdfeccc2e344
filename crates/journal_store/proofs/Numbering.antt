-- Rows whose numbers rise have each a number of its own.
use Rattle.std.proofs.Common.{◌≡◌, ◌≤◌, ◌<◌, ◌+◌, ℕ, suc, ℤ, Bool, true, false, cond, length, take, get_or, List, [], ◌∷◌, ◌++◌, map, filter, Option, Some, None, Less, int_cmp, refl, sym, ap, ◌∙◌, subst, inl, inr, IsPermutation, arith}
use Rattle.std.specs.Prelude.{MatchOption}
use Rattle.std.specs.Cmp.{int_cmp_total}
use Rattle.std.specs.List.{AllByRecursion}
use Rattle.std.specs.List.Sorted.{IsStrictlySortedBy}
use Rattle.std.specs.Ordering.{is_eq}
use Rattle.std.proofs.lemmas.Bool.{cases_Bool}
use Rattle.std.proofs.lemmas.Bool.Decides.{Decides-int_eq}
use Rattle.std.proofs.lemmas.List.{map-append, take_all, take_more}
use Rattle.std.proofs.lemmas.List.Sorted.{length_permutation, IsPermutation-sym}
use Rattle.sqlite_value.specs.declared.value.Value.{Value}
use Rattle.sqlite_value.specs.declared.value.Value.TheVariants.{Int}
use Rattle.sqlite_value.specs.Order.{Row, column, value_cmp}
use Rattle.sqlite_value.proofs.OrderLemmas.{value_cmp-Int}
use Rattle.sqlite_trees.specs.Tree.{rowid, has_rowid}
use Rattle.sqlite_trees.proofs.ListLemmas.{all-append, all_weaker, filter-map, filter_as_flat_map, filter_none, map-map, IsPermutation-flat_map}
use Rattle.sqlite_rules.specs.Lists.{Has}
use Rattle.sqlite_rules.proofs.ListLemmas.{has_kept}
use Rattle.journal_store.specs.Connections.{AreNumbered}
use Rattle.sql_tables.proofs.Selecting.{mapped}
use Rattle.journal_store.specs.Opening.{AreRising}
use Rattle.journal_store.proofs.Loading.{has_map, map_has, permuted}

-- ---- numbers that rise

abbrev pub Rising : List ℤ → Type 0
Rising numbers = IsStrictlySortedBy int_cmp numbers

abbrev pub last_of : List ℤ → Option ℤ
last_of [] = None
last_of (n ∷ []) = Some n
last_of (n ∷ m ∷ numbers) = last_of (m ∷ numbers)

pub last_push : (numbers : List ℤ) (new : ℤ) → last_of (numbers ++ new ∷ []) ≡ Some new
last_push [] new = refl
last_push (n ∷ []) new = refl
last_push (n ∷ m ∷ numbers) new = last_push (m ∷ numbers) new

below_last : (numbers : List ℤ) (new : ℤ) → Rising numbers → MatchOption (last_of numbers) (Unit {0}) (λ n. int_cmp n new ≡ Less) → AllByRecursion (λ n. int_cmp n new ≡ Less) numbers
unfolding IsStrictlySortedBy
below_last [] new rising last = tt
below_last (n ∷ []) new rising last = (last, tt)
below_last (n ∷ m ∷ numbers) new rising last = let later = below_last (m ∷ numbers) new rising.1 last in (int_cmp_total.trans n m new rising.0.0 later.0, later)

rising_below : (numbers : List ℤ) (new : ℤ) → Rising numbers → AllByRecursion (λ n. int_cmp n new ≡ Less) numbers → Rising (numbers ++ new ∷ [])
unfolding IsStrictlySortedBy
rising_below [] new rising below = (tt, tt)
rising_below (n ∷ numbers) new rising below = (all-append (λ m. int_cmp n m ≡ Less) numbers (new ∷ []) rising.0 (below.0, tt), rising_below numbers new rising.1 below.1)

pub rising_none : Rising []
unfolding IsStrictlySortedBy
rising_none = tt

pub rising_push : (numbers : List ℤ) (new : ℤ) → Rising numbers → MatchOption (last_of numbers) (Unit {0}) (λ n. int_cmp n new ≡ Less) → Rising (numbers ++ new ∷ [])
rising_push numbers new rising last = rising_below numbers new rising (below_last numbers new rising last)

-- one more row, whose number is above the last
pub rising_more : (rows : List Row) (at : ℕ) (row : Row) (number : ℤ) (numbers : List ℤ) (last : Option ℤ) → at < length rows → row ≡ get_or rows at row → column row 0 ≡ Int number
    → map (λ (r : Row). column r 0) (take at rows) ≡ map Int numbers → Rising numbers → last ≡ last_of numbers → MatchOption last (Unit {0}) (λ n. int_cmp n number ≡ Less)
    → (later : List ℤ) × (map (λ (r : Row). column r 0) (take (at + 1) rows) ≡ map Int later) × Rising later × (Some number ≡ last_of later)
rising_more rows at row number numbers last within is shows shown rising last_is above =
    let more : take (at + 1) rows ≡ take at rows ++ row ∷ [] = take_more rows at row within ∙ ap (λ r. take at rows ++ r ∷ []) (sym is) in (
      numbers ++ number ∷ [],
      ap (map (λ (r : Row). column r 0)) more ∙ map-append (λ (r : Row). column r 0) (take at rows) (row ∷ []) ∙ (λ i. shown i ++ shows i ∷ []) ∙ sym (map-append Int numbers (number ∷ [])),
      rising_push numbers number rising (subst (λ o. MatchOption o (Unit {0}) (λ n. int_cmp n number ≡ Less)) last_is above),
      sym (last_push numbers number),
    )

pub all_rising : (rows : List Row) (at : ℕ) (numbers : List ℤ) → length rows ≤ at → map (λ (r : Row). column r 0) (take at rows) ≡ map Int numbers → Rising numbers → AreRising rows
all_rising rows at numbers past shown rising = record { numbers = numbers; shown = ap (map (λ (r : Row). column r 0)) (sym (take_all at rows past)) ∙ shown; rising = rising }

-- ---- one row of each number

same_int : (m n : ℤ) → is_eq (value_cmp (Int m) (Int n)) ≡ true → m ≡ n
same_int m n tie = (Decides-int_eq m n).0 (sym (ap is_eq (value_cmp-Int m n)) ∙ tie)

not_below : (m : ℤ) → int_cmp m m ≡ Less → ⊥
not_below m less = let clash : is_eq Less ≡ true = ap is_eq (sym less) ∙ (Decides-int_eq m m).1 refl in cc

one_at_most : (n : ℤ) (numbers : List ℤ) → Rising numbers → length (filter (λ m. is_eq (value_cmp (Int m) (Int n))) numbers) ≤ 1
unfolding IsStrictlySortedBy
one_at_most n [] rising = omega arith
one_at_most n (m ∷ numbers) rising = go (is_eq (value_cmp (Int m) (Int n))) refl (one_at_most n numbers rising.1)
  where
    is_n : ℤ → Bool
    is_n k = is_eq (value_cmp (Int k) (Int n))

    others : is_eq (value_cmp (Int m) (Int n)) ≡ true → (k : ℤ) → int_cmp m k ≡ Less → is_eq (value_cmp (Int k) (Int n)) ≡ false
    others here k less = elim (cases_Bool (is_eq (value_cmp (Int k) (Int n)))) [
      | inl there ↦ absurd (not_below m (ap (int_cmp m) (same_int m n here ∙ sym (same_int k n there)) ∙ less))
      | inr none ↦ none
    ]

    go : (b : Bool) → is_eq (value_cmp (Int m) (Int n)) ≡ b → length (filter is_n numbers) ≤ 1 → length (cond b (m ∷ filter is_n numbers) (filter is_n numbers)) ≤ 1
    go true here later =
        let none : filter is_n numbers ≡ [] = filter_none is_n numbers (all_weaker (λ k. int_cmp m k ≡ Less) (λ k. is_n k ≡ false) (others here) numbers rising.0) in
        omega (arith, ap length none)
    go false here later = later

filtered : {X : Type 0} (p : X → Bool) (xs ys : List X) → IsPermutation xs ys → IsPermutation (filter p xs) (filter p ys)
filtered p xs ys same = rw (filter_as_flat_map p xs, filter_as_flat_map p ys) (IsPermutation-flat_map (λ x. cond (p x) (x ∷ []) []) xs ys same)

length_map : {A B : Type 0} (f : A → B) (xs : List A) → length (map f xs) ≡ length xs
length_map f [] = refl
length_map f (x ∷ xs) = ap suc (length_map f xs)

only_one : {X : Type 0} (xs : List X) (x : X) → Has xs x → length xs ≤ 1 → xs ≡ x ∷ []
only_one [] x there few = absurd there
only_one (y ∷ []) x (inl same) few = ap (λ z. z ∷ []) (sym same)
only_one (y ∷ []) x (inr there) few = absurd there
only_one (y ∷ z ∷ xs) x there few = absurd (omega (arith, few))

-- the numbers of a table are those that a query shows for its rows
pub numbered : (table rows : List Row) → IsPermutation (map (λ (r : Row). rowid r ∷ []) table) rows → AreRising rows → AreNumbered table
numbered table rows same are r there = (number.0, number.2, only_one (filter (has_rowid number.0) table) r kept few)
  where
    permutes : IsPermutation (map rowid table) (map Int are.numbers)
    permutes = subst (IsPermutation (map rowid table)) are.shown
        (subst (λ l. IsPermutation l (map (λ (q : Row). column q 0) rows)) (map-map (λ (q : Row). column q 0) (λ (q : Row). rowid q ∷ []) table) (mapped (λ (q : Row). column q 0) (map (λ (q : Row). rowid q ∷ []) table) rows same))

    number : (n : ℤ) × Has are.numbers n × (rowid r ≡ Int n)
    number = has_map Int are.numbers (rowid r) (permuted (map Int are.numbers) (map rowid table) (rowid r) (IsPermutation-sym (map rowid table) (map Int are.numbers) permutes) (map_has rowid table r there))

    test : Value → Bool
    test v = is_eq (value_cmp v (Int number.0))

    kept : Has (filter (has_rowid number.0) table) r
    kept = has_kept (has_rowid number.0) table r there
        (ap test number.2 ∙ ap is_eq (value_cmp-Int number.0 number.0) ∙ (Decides-int_eq number.0 number.0).1 refl)

    few : length (filter (has_rowid number.0) table) ≤ 1
    few =
        let one = one_at_most number.0 are.numbers are.rising in
        let shown : length (filter test (map Int are.numbers)) ≡ length (filter (λ m. test (Int m)) are.numbers) = ap length (filter-map test Int are.numbers) ∙ length_map Int (filter (λ m. test (Int m)) are.numbers) in
        let own : length (filter test (map rowid table)) ≡ length (filter (has_rowid number.0) table) = ap length (filter-map test rowid table) ∙ length_map rowid (filter (has_rowid number.0) table) in
        let both = length_permutation (filter test (map rowid table)) (filter test (map Int are.numbers)) (filtered test (map rowid table) (map Int are.numbers) permutes) in
        omega (arith, one, shown, own, both)
