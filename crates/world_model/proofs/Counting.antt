-- How many records there are: the names of the source, each once, and no more entries than names.
use Rattle.std.proofs.Common.{◌≡◌, ℕ, zero, suc, ◌+◌, ◌<◌, ◌≤◌, Bool, true, false, cond, not, List, [], ◌∷◌, ◌++◌, length, Some, ◌⊎◌, inl, inr, refl, ap, sym, ◌∙◌, subst, arith}
use Rattle.std.proofs.lemmas.Bool.{cases_Bool}
use Rattle.std.proofs.lemmas.Bool.Decides.{nat_tests}
use Rattle.std.specs.BTreeSet.{insert_key}
use Rattle.std.proofs.lemmas.List.Sums.{length-filter}
use Rattle.std.specs.List.{AllByRecursion, filter, slice_get}
use Rattle.std.specs.Ordering.{is_eq, ordering_reverse, match_ordering}
use Rattle.std.specs.Prelude.{nat_le}
use Rattle.std.specs.declared.cmp.Ordering.{Ordering}
use Rattle.std.specs.declared.cmp.Ordering.TheVariants.{Less, Equal, Greater}
use Rattle.scim_key.proofs.RecordLaws.{same as same_names}
use Rattle.scim_key.specs.RecordOrder.{names_total, tied}
use Rattle.scim_key.specs.Records.{name_cmp}
use Rattle.scim_key.specs.declared.records.Kind.{Kind}
use Rattle.scim_key.specs.declared.records.Kind.TheVariants.{User, Group}
use Rattle.scim_key.specs.declared.records.RecordName.{RecordName}
use Rattle.provider_core.proofs.TableLaws.{at_push}
use Rattle.source_csv.specs.Records.{row_name}
use Rattle.source_csv.specs.declared.rows.Row.{Row}
use Rattle.journal_core.specs.Entries.{count_of, most_records}
use Rattle.connector_core.specs.History.{History, same_kind, same_name}
use Rattle.connector_core.specs.Changing.{is_full, names_of, names_with}
use Rattle.world_model.specs.Safe.{IsAt, Has}
use Rattle.world_model.specs.Untroubled.{most_entries}

-- ---- names in their order

abbrev is_of_kind : Kind → RecordName → Bool
is_of_kind kind name = same_kind kind name.kind

abbrev pub Comes : RecordName → RecordName → Type 0
Comes a b = name_cmp a b ≡ Less

abbrev pub InOrder : List RecordName → Type 0
InOrder [] = Unit {0}
InOrder (name ∷ names) = AllByRecursion (Comes name) names × InOrder names

abbrev pub with_name : List RecordName → RecordName → List RecordName
with_name names name = insert_key name_cmp names name

abbrev placed : Ordering → RecordName → RecordName → List RecordName → List RecordName → List RecordName
placed r name first rest more = match_ordering r (name ∷ first ∷ rest) (first ∷ rest) (first ∷ more)

tied_itself : (r : Ordering) → r ≡ ordering_reverse r → r ≡ Equal
tied_itself Less e = absurd (cc)
tied_itself Equal e = refl
tied_itself Greater e = absurd (cc)

itself : (name : RecordName) → name_cmp name name ≡ Equal
itself name = tied_itself (name_cmp name name) (names_total.antisymm name name)

turned : (a b : RecordName) (r : Ordering) → name_cmp a b ≡ r → name_cmp b a ≡ ordering_reverse r
turned a b r is = names_total.antisymm b a ∙ ap ordering_reverse is

all_with : (P : RecordName → Type 0) (names : List RecordName) (name : RecordName) → AllByRecursion P names → P name → AllByRecursion P (with_name names name)
all_with P [] name all here = (here, tt)
all_with P (x ∷ xs) name all here = go (name_cmp name x) (all_with P xs name all.1 here)
  where
    go : (r : Ordering) → AllByRecursion P (with_name xs name) → AllByRecursion P (placed r name x xs (with_name xs name))
    go Less more = (here, all)
    go Equal more = all
    go Greater more = (all.0, more)

all_after : (a b : RecordName) (names : List RecordName) → Comes a b → AllByRecursion (Comes b) names → AllByRecursion (Comes a) names
all_after a b [] comes all = tt
all_after a b (x ∷ xs) comes all = (names_total.trans a b x comes all.0, all_after a b xs comes all.1)

order_with : (names : List RecordName) (name : RecordName) → InOrder names → InOrder (with_name names name)
order_with [] name order = (tt, tt)
order_with (x ∷ xs) name order = go (name_cmp name x) refl (order_with xs name order.1)
  where
    go : (r : Ordering) → name_cmp name x ≡ r → InOrder (with_name xs name) → InOrder (placed r name x xs (with_name xs name))
    go Less is more = ((is, all_after name x xs is order.0), order)
    go Equal is more = order
    go Greater is more = (all_with (Comes x) xs name order.0 (turned name x Greater is), more)

pub all_has : (P : RecordName → Type 0) (names : List RecordName) (i : ℕ) (name : RecordName) → AllByRecursion P names → IsAt names i name → P name
all_has P [] i name all at = absurd (cc)
all_has P (x ∷ xs) zero name all at = let same : x ≡ name = cc in subst P same all.0
all_has P (x ∷ xs) (suc i) name all at = all_has P xs i name all.1 at

-- a name that is there isn't added
with_there : (names : List RecordName) (i : ℕ) (name : RecordName) → InOrder names → IsAt names i name → with_name names name ≡ names
with_there [] i name order at = absurd (cc)
with_there (x ∷ xs) zero name order at =
    let same : x ≡ name = cc in
    let tie : name_cmp name x ≡ Equal = ap (name_cmp name) same ∙ itself name in
    ap (λ r. placed r name x xs (with_name xs name)) tie
with_there (x ∷ xs) (suc i) name order at =
    let after : name_cmp name x ≡ Greater = turned x name Less (all_has (Comes x) xs i name order.0 at) in
    ap (λ r. placed r name x xs (with_name xs name)) after ∙ ap (λ names. x ∷ names) (with_there xs i name order.1 at)

pub has_old : (names : List RecordName) (name : RecordName) (i : ℕ) (other : RecordName) → IsAt names i other → Has (with_name names name) other
has_old [] name i other at = absurd (cc)
has_old (x ∷ xs) name i other at = go (name_cmp name x) i at (λ k. has_old xs name k other)
  where
    go : (r : Ordering) (i : ℕ) → IsAt (x ∷ xs) i other → ((k : ℕ) → IsAt xs k other → Has (with_name xs name) other) → Has (placed r name x xs (with_name xs name)) other
    go Less i at later = (suc i, at)
    go Equal i at later = (i, at)
    go Greater zero at later = (0, at)
    go Greater (suc k) at later = let rest = later k at in (suc rest.0, rest.1)

pub has_new : (names : List RecordName) (name : RecordName) → Has (with_name names name) name
has_new [] name = (0, refl)
has_new (x ∷ xs) name = go (name_cmp name x) refl (has_new xs name)
  where
    go : (r : Ordering) → name_cmp name x ≡ r → Has (with_name xs name) name → Has (placed r name x xs (with_name xs name)) name
    go Less is later = (0, refl)
    go Equal is later = (0, ap Some (sym ((same_names name x).0 (sym (tied name x) ∙ ap is_eq is))))
    go Greater is later = (suc later.0, later.1)

-- one more at most
abbrev one_if : Bool → ℕ
one_if b = cond b 1 0

one_if_small : (b : Bool) → one_if b ≤ 1
one_if_small true = omega arith
one_if_small false = omega arith

-- how many names pass a test
abbrev pub many : (RecordName → Bool) → List RecordName → ℕ
many p names = length (filter p names)

cond_length : (b : Bool) (x : RecordName) (rest : List RecordName) → length (cond b (x ∷ rest) rest) ≡ one_if b + length rest
cond_length true x rest = omega arith
cond_length false x rest = omega arith

many_cons : (p : RecordName → Bool) (x : RecordName) (xs : List RecordName) → many p (x ∷ xs) ≡ one_if (p x) + many p xs
many_cons p x xs = cond_length (p x) x (filter p xs)

many_with : (p : RecordName → Bool) (names : List RecordName) (name : RecordName) → many p (with_name names name) ≤ many p names + one_if (p name)
many_with p [] name = omega (arith, many_cons p name [])
many_with p (x ∷ xs) name = go (name_cmp name x) (many_with p xs name)
  where
    go : (r : Ordering) → many p (with_name xs name) ≤ many p xs + one_if (p name) → many p (placed r name x xs (with_name xs name)) ≤ many p (x ∷ xs) + one_if (p name)
    go Less more = omega (arith, many_cons p name (x ∷ xs))
    go Equal more = omega arith
    go Greater more = omega (arith, more, many_cons p x (with_name xs name), many_cons p x xs)

-- a name more doesn't make them fewer
pub more_with : (p : RecordName → Bool) (names : List RecordName) (name : RecordName) → many p names ≤ many p (with_name names name)
more_with p [] name = omega arith
more_with p (x ∷ xs) name = go (name_cmp name x) (more_with p xs name)
  where
    go : (r : Ordering) → many p xs ≤ many p (with_name xs name) → many p (x ∷ xs) ≤ many p (placed r name x xs (with_name xs name))
    go Less more = omega (arith, many_cons p name (x ∷ xs))
    go Equal more = omega arith
    go Greater more = omega (arith, more, many_cons p x (with_name xs name), many_cons p x xs)

one_not : (b : Bool) → one_if b + one_if (not b) ≡ 1
one_not true = refl
one_not false = refl

-- each name passes a test, or it doesn't
pub many_both : (p : RecordName → Bool) (names : List RecordName) → many p names + many (λ n. not (p n)) names ≡ length names
many_both p [] = refl
many_both p (x ∷ xs) = omega (arith, many_both p xs, many_cons p x xs, many_cons (λ n. not (p n)) x xs, one_not (p x))

-- where each name that passes one test passes the other, no more pass it
fewer : (p q : RecordName → Bool) (names : List RecordName) → ((n : RecordName) → one_if (q n) ≤ one_if (p n)) → many q names ≤ many p names
fewer p q [] below = omega arith
fewer p q (x ∷ xs) below = omega (arith, fewer p q xs below, below x, many_cons p x xs, many_cons q x xs)

-- a name doesn't come after itself
apart_from : (x : RecordName) (names : List RecordName) (i : ℕ) (n : RecordName) → AllByRecursion (Comes x) names → IsAt names i n → n ≡ x → ⊥
apart_from x names i n order at same =
    let less : name_cmp x n ≡ Less = all_has (Comes x) names i n order at in
    let tie : name_cmp x n ≡ Equal = ap (name_cmp x) same ∙ itself x in
    let clash : Less ≡ Equal = sym less ∙ tie in
    cc

pub same_many : (p q : RecordName → Bool) (names : List RecordName) → ((i : ℕ) (n : RecordName) → IsAt names i n → p n ≡ q n) → many p names ≡ many q names
same_many p q [] same = refl
same_many p q (x ∷ xs) same =
    omega (arith, many_cons p x xs, many_cons q x xs, ap one_if (same 0 x refl), same_many p q xs (λ i n at. same (suc i) n at))

-- two tests that differ on one name at most
module _ (p q : RecordName → Bool) (x : RecordName) (same : (n : RecordName) → (n ≡ x → ⊥) → p n ≡ q n) where
  differs_once : (y : RecordName) (names : List RecordName) → y ≡ x → AllByRecursion (Comes y) names → many p names ≡ many q names
  differs_once y names is order = same_many p q names (λ i n at. same n (λ its. apart_from y names i n order at (its ∙ sym is)))

  pub one_more_at_most : (names : List RecordName) → InOrder names → many p names ≤ many q names + 1
  one_more_at_most [] order = omega arith
  one_more_at_most (y ∷ ys) order = elim (cases_Bool (same_name y x)) [
    | inl is ↦
        let rest = differs_once y ys ((same_names y x).0 is) order.0 in
        omega (arith, rest, many_cons p y ys, many_cons q y ys, one_if_small (p y))
    | inr other ↦
        let here : p y ≡ q y = same y (λ is. let clash : false ≡ true = sym other ∙ (same_names y x).1 is in absurd (cc)) in
        omega (arith, one_more_at_most ys order.1, many_cons p y ys, many_cons q y ys, ap one_if here)
  ]

  module _ (passes : p x ≡ true) (fails : q x ≡ false) where
    below : (n : RecordName) → one_if (q n) ≤ one_if (p n)
    below n = elim (cases_Bool (same_name n x)) [
      | inl is ↦
          let none : one_if (q n) ≡ 0 = ap (λ m. one_if (q m)) ((same_names n x).0 is) ∙ ap one_if fails in
          omega (arith, none)
      | inr other ↦
          let here : p n ≡ q n = same n (λ is. let clash : false ≡ true = sym other ∙ (same_names n x).1 is in absurd (cc)) in
          omega (arith, ap one_if here)
    ]

    pub one_more_at_least : (names : List RecordName) (i : ℕ) → IsAt names i x → many q names + 1 ≤ many p names
    one_more_at_least [] i at = absurd (cc)
    one_more_at_least (y ∷ ys) zero at =
        let is : y ≡ x = cc in
        let none : one_if (q y) ≡ 0 = ap (λ m. one_if (q m)) is ∙ ap one_if fails in
        let one : one_if (p y) ≡ 1 = ap (λ m. one_if (p m)) is ∙ ap one_if passes in
        omega (arith, none, one, fewer p q ys below, many_cons p y ys, many_cons q y ys)
    one_more_at_least (y ∷ ys) (suc i) at =
        omega (arith, one_more_at_least ys i at, below y, many_cons p y ys, many_cons q y ys)

-- a name that passes is one
pub some_many : (p : RecordName → Bool) (names : List RecordName) (i : ℕ) (x : RecordName) → IsAt names i x → p x ≡ true → 1 ≤ many p names
some_many p [] i x at passes = absurd (cc)
some_many p (y ∷ ys) zero x at passes =
    let is : y ≡ x = cc in
    let one : one_if (p y) ≡ 1 = ap (λ m. one_if (p m)) is ∙ ap one_if passes in
    omega (arith, one, many_cons p y ys)
some_many p (y ∷ ys) (suc i) x at passes = omega (arith, some_many p ys i x at passes, many_cons p y ys)

-- ---- the names of a history

pub names_push : (names : List RecordName) (history : History) (row : Row) → names_with names (history ++ row ∷ []) ≡ with_name (names_with names history) (row_name row)
names_push names [] row = refl
names_push names (r ∷ history) row = names_push (with_name names (row_name r)) history row

order_from : (names : List RecordName) (history : History) → InOrder names → InOrder (names_with names history)
order_from names [] order = order
order_from names (row ∷ history) order = order_from (with_name names (row_name row)) history (order_with names (row_name row) order)

pub names_ordered : (history : History) → InOrder (names_of history)
names_ordered history = order_from [] history tt

-- the names are in order, every row's is there, and there are no more of a type than there may be
pub record Counted (history : History) : Type 0 where
  pub order : InOrder (names_of history)
  pub every : (i : ℕ) (row : Row) → IsAt history i row → Has (names_of history) (row_name row)
  pub few : (kind : Kind) → many (is_of_kind kind) (names_of history) ≤ most_records kind

abbrev with_row : History → Row → History
with_row history row = history ++ row ∷ []

of_no_other_kind : (k l : Kind) → (same_kind k l ≡ false) ⊎ (k ≡ l)
of_no_other_kind User User = inr refl
of_no_other_kind User Group = inl refl
of_no_other_kind Group User = inl refl
of_no_other_kind Group Group = inr refl

none_few : (kind : Kind) → 0 ≤ most_records kind
none_few User = omega arith
none_few Group = omega arith

not_full : (most count : ℕ) → nat_le most count ≡ false → count < most
not_full most count test = grind (arith, nat_tests)

module _ (history : History) (row : Row) (counted : Counted history) where
  abbrev before_row : List RecordName
  before_row = names_of history

  pushed : names_of (with_row history row) ≡ with_name before_row (row_name row)
  pushed = names_push [] history row

  every_pushed : (i : ℕ) (r : Row) → IsAt (with_row history row) i r → Has (names_of (with_row history row)) (row_name r)
  every_pushed i r at = subst (λ (names : List RecordName). Has names (row_name r)) (sym pushed) (elim (at_push history row i r at) [
    | inl old ↦ let has = counted.every i r old in has_old before_row (row_name row) has.0 (row_name r) has.1
    | inr new ↦ subst (λ (x : Row). Has (with_name before_row (row_name row)) (row_name x)) new.1 (has_new before_row (row_name row))
  ])

  abbrev Few : List RecordName → Type 0
  Few names = (kind : Kind) → many (is_of_kind kind) names ≤ most_records kind

  first_few : is_full (row_name row).kind before_row ≡ false → Few (with_name before_row (row_name row))
  first_few room kind = elim (of_no_other_kind kind (row_name row).kind) [
    | inl other ↦
        let up = many_with (is_of_kind kind) before_row (row_name row) in
        let none : one_if (is_of_kind kind (row_name row)) ≡ 0 = ap one_if other in
        omega (arith, up, none, counted.few kind)
    | inr same ↦
        let P : Kind → Type 0 = λ k. is_full k before_row ≡ false in
        let below = not_full (most_records kind) (count_of kind before_row) (subst P (sym same) room) in
        let counts : many (is_of_kind kind) before_row ≡ count_of kind before_row = length-filter (is_of_kind kind) before_row in
        let up = many_with (is_of_kind kind) before_row (row_name row) in
        let most = one_if_small (is_of_kind kind (row_name row)) in
        omega (arith, up, below, most, counts)
  ]

  -- a row of a record that is there, or of a new one for which there is room
  pub push_counted : Has before_row (row_name row) ⊎ (is_full (row_name row).kind before_row ≡ false) → Counted (with_row history row)
  push_counted room = record {
    order = subst InOrder (sym pushed) (order_with before_row (row_name row) counted.order);
    every = every_pushed;
    few = subst Few (sym pushed) (elim room [
      | inl there ↦ subst Few (sym (with_there before_row there.0 (row_name row) counted.order there.1)) counted.few
      | inr free ↦ first_few free
    ]);
  }

pub none_counted : Counted []
none_counted = record { order = tt; every = λ i row at. absurd (cc); few = none_few }

-- ---- no more entries than names

suc_same : (i j : ℕ) → suc i ≡ suc j → i ≡ j
suc_same i j same = omega (arith, same)

zero_suc : (i : ℕ) → 0 ≡ suc i → ⊥
zero_suc i same = omega (arith, same)

one_kind : (k : Kind) → one_if (same_kind User k) + one_if (same_kind Group k) ≡ 1
one_kind User = refl
one_kind Group = refl

both_kinds : (names : List RecordName) → many (is_of_kind User) names + many (is_of_kind Group) names ≡ length names
both_kinds [] = refl
both_kinds (x ∷ xs) = omega (arith, both_kinds xs, many_cons (is_of_kind User) x xs, many_cons (is_of_kind Group) x xs, one_kind x.kind)

-- the list without the element at a place
abbrev without : {X : Type 0} → ℕ → List X → List X
without i [] = []
without zero (x ∷ xs) = xs
without (suc i) (x ∷ xs) = x ∷ without i xs

one_less : {X : Type 0} (i : ℕ) (xs : List X) (x : X) → IsAt xs i x → length xs ≡ suc (length (without i xs))
one_less i [] x at = absurd (cc)
one_less zero (y ∷ ys) x at = refl
one_less (suc i) (y ∷ ys) x at = ap suc (one_less i ys x at)

still_has : {X : Type 0} (i j : ℕ) (xs : List X) (x : X) → IsAt xs j x → (j ≡ i → ⊥) → Has (without i xs) x
still_has i j [] x at other = absurd (cc)
still_has zero zero (y ∷ ys) x at other = absurd (other refl)
still_has zero (suc j) (y ∷ ys) x at other = (j, at)
still_has (suc i) zero (y ∷ ys) x at other = (0, at)
still_has (suc i) (suc j) (y ∷ ys) x at other = let rest = still_has i j ys x at (λ e. other (ap suc e)) in (suc rest.0, rest.1)

-- things of different names, each named in a list, are no more than it has
pub no_more : {X Y : Type 0} (f : Y → X) (xs : List Y) (ys : List X) → ((i j : ℕ) (x y : Y) → IsAt xs i x → IsAt xs j y → f x ≡ f y → i ≡ j)
    → ((i : ℕ) (x : Y) → IsAt xs i x → Has ys (f x)) → length xs ≤ length ys
no_more f [] ys apart all = omega arith
no_more {X} {Y} f (x ∷ xs) ys apart all =
    let here = all 0 x refl in
    let rest = no_more f xs (without here.0 ys) (λ i j y z at_y at_z same. suc_same i j (apart (suc i) (suc j) y z at_y at_z same)) (λ i y at.
    let there = all (suc i) y at in
    still_has here.0 there.0 ys (f y) there.1 (λ same.
    let twice : Some (f y) ≡ Some (f x) = sym there.1 ∙ ap (slice_get ys) same ∙ here.1 in
    zero_suc i (apart 0 (suc i) x y refl at (cc)))) in
    omega (arith, rest, one_less here.0 ys (f x) here.1)

pub few_names : (history : History) → Counted history → length (names_of history) ≤ most_entries
few_names history counted = omega (arith, both_kinds (names_of history), counted.few User, counted.few Group)
