-- What a query over a table answers.
use Rattle.std.proofs.Common.{◌≡◌, ◌<◌, ◌+◌, ℕ, Bool, true, false, ◌&&◌, cond, length, get_or, List, [], ◌∷◌, ◌++◌, map, filter, flat_map, Less, Equal, Greater, refl, sym, ap, ◌∙◌, subst, inl, inr, IsPermutation, IsSorted, arith}
use Rattle.std.specs.List.{AllByRecursion, list_all}
use Rattle.std.specs.Ordering.{is_lt, ordering_then}
use Rattle.std.specs.declared.cmp.Ordering.{Ordering}
use Rattle.std.proofs.Math.ListN.{get_or-map}
use Rattle.std.proofs.lemmas.List.{length-map}
use Rattle.std.proofs.lemmas.List.Sorted.{IsPermutation-sym}
use Rattle.sqlite_value.specs.declared.keys.Collation.TheVariants.{Binary}
use Rattle.sqlite_value.specs.declared.keys.Key.{Key}
use Rattle.sqlite_value.specs.declared.value.Value.TheVariants.{Null}
use Rattle.sqlite_value.specs.Order.{Row, column, value_cmp}
use Rattle.sqlite_sql.specs.Term.{Env, Term, eval, eval_all, holds}
use Rattle.sqlite_sql.specs.Query.{Query, Output, IsAnswer, output, output_cmp}
use Rattle.sqlite_sql.specs.Program.{overlay}
use Rattle.sqlite_trees.proofs.ListLemmas.{IsPermutation-flat_map, all-get_or, all-map, all-permutation, all_of}
use Rattle.sqlite_trees.specs.Tree.{Trees}
use Rattle.sqlite.specs.Effect.{Database, Answers}
use Rattle.sqlite_rules.specs.Lists.{Has}
use Rattle.sqlite_rules.proofs.ListLemmas.{all_has, all_from, has_kept, has_filtered}
use Rattle.sql_tables.proofs.Queries.{query}

-- the rows are in the order of their first column
abbrev pub IsOrdered : List Row → Type 0
IsOrdered rows = IsSorted (λ a b. value_cmp (column a 0) (column b 0)) rows

-- the row is shown if it passes each test
abbrev pub passes : List Term → Row → Row → Bool
passes terms params r = list_all (holds (params ∷ r ∷ [])) terms

abbrev pub shows : List Term → Row → Row → Row
shows shown params r = eval_all shown (params ∷ r ∷ [])

one_each : {A B : Type 0} (f : A → B) (xs : List A) → map f xs ≡ flat_map (λ x. f x ∷ []) xs
one_each f [] = refl
one_each f (x ∷ xs) = ap (λ l. f x ∷ l) (one_each f xs)

pub mapped : {A B : Type 0} (f : A → B) (xs ys : List A) → IsPermutation xs ys → IsPermutation (map f xs) (map f ys)
mapped f xs ys same = rw (one_each f xs, one_each f ys) (IsPermutation-flat_map (λ x. f x ∷ []) xs ys same)

module _ (tree : ℕ) (terms shown : List Term) (order : List (Term × Key)) (params : Row) where
  abbrev asked : Query
  asked = query tree terms shown order

  each_shown : (table : List Row) → map (λ (o : Output). o.1) (map (output asked) (flat_map (λ r. cond (passes terms params r) ((params ∷ r ∷ []) ∷ []) []) table)) ≡ map (shows shown params) (filter (passes terms params) table)
  each_shown [] = refl
  each_shown (r ∷ table) =
      elim (passes terms params r) as (λ b. map (λ (o : Output). o.1) (map (output asked) (cond b ((params ∷ r ∷ []) ∷ []) [] ++ flat_map (λ x. cond (passes terms params x) ((params ∷ x ∷ []) ∷ []) []) table))
      ≡ map (shows shown params) (cond b (r ∷ filter (passes terms params) table) (filter (passes terms params) table)))
      [ true ↦ ap (λ l. shows shown params r ∷ l) (each_shown table) | false ↦ each_shown table ]

  -- the answer is what is shown of the rows that pass, in some order
  pub selected_over : ((db : Trees) → overlay db [] tree ≡ db tree) → (db : Database) (rows : List Row) → Answers db (record { lets = []; body = asked }) params rows → IsPermutation (map (shows shown params) (filter (passes terms params) (db.trees tree))) rows
  selected_over own db rows h =
      let a : IsAnswer asked (overlay db.trees []) params rows = h.answer Null in
      let kept = a.distinct ∙ ap (map (output asked)) a.grouped in
      let same = mapped (λ (o : Output). o.1) a.kept a.ordered a.same in
      subst (λ table. IsPermutation (map (shows shown params) (filter (passes terms params) table)) rows) (own db.trees)
      (subst (λ l. IsPermutation l rows) (ap (map (λ (o : Output). o.1)) kept ∙ each_shown (overlay db.trees [] tree))
      (subst (λ l. IsPermutation (map (λ (o : Output). o.1) a.kept) l) (sym a.shown) same))

-- ---- in the order of the first column

then_nothing : (o : Ordering) → is_lt o ≡ is_lt (ordering_then o Equal)
then_nothing Less = refl
then_nothing Equal = refl
then_nothing Greater = refl

module _ (tree : ℕ) (terms shown : List Term) (term : Term) (params : Row) (same : (env : Env) → eval term env ≡ column (eval_all shown env) 0) where
  abbrev sorting : Query
  sorting = query tree terms shown ((term, record { collation = Binary; descending = false }) ∷ [])

  abbrev IsByFirst : Output → Type 0
  IsByFirst o = column o.0 0 ≡ column o.1 0

  rows_ordered : (ordered : List Output) → AllByRecursion IsByFirst ordered → IsSorted (output_cmp sorting) ordered → IsOrdered (map (λ (o : Output). o.1) ordered)
  rows_ordered ordered each sorted k d low high =
      let size = length-map ordered (λ (o : Output). o.1) in
      let both : Output = (d, d) in
      let below : k + 1 < length ordered = omega (arith, high, size) in
      let first = get_or ordered k both in
      let second = get_or ordered (k + 1) both in
      let one : column (get_or (map (λ (o : Output). o.1) ordered) k d) 0 ≡ column first.0 0 =
      ap (λ (r : Row). column r 0) (get_or-map (λ (o : Output). o.1) ordered k both) ∙ sym (all-get_or IsByFirst ordered k both each (omega (arith, below))) in
      let two : column (get_or (map (λ (o : Output). o.1) ordered) (k + 1) d) 0 ≡ column second.0 0 =
      ap (λ (r : Row). column r 0) (get_or-map (λ (o : Output). o.1) ordered (k + 1) both) ∙ sym (all-get_or IsByFirst ordered (k + 1) both each below) in
      (λ i. is_lt (value_cmp (two i) (one i))) ∙ then_nothing (value_cmp (column second.0 0) (column first.0 0)) ∙ sorted k both low below

  pub ordered_over : (db : Database) (rows : List Row) → Answers db (record { lets = []; body = sorting }) params rows → IsOrdered rows
  ordered_over db rows h =
      let a : IsAnswer sorting (overlay db.trees []) params rows = h.answer Null in
      let each : AllByRecursion IsByFirst a.ordered =
      all-permutation IsByFirst a.kept a.ordered a.same (subst (AllByRecursion IsByFirst) (sym a.distinct) (all-map IsByFirst (output sorting) a.staged (all_of (λ env. IsByFirst (output sorting env)) same a.staged))) in
      subst IsOrdered (sym a.shown) (rows_ordered a.ordered each a.sorted)

-- ---- what is in a result

permuted : {X : Type 0} (xs ys : List X) (x : X) → IsPermutation xs ys → Has ys x → Has xs x
permuted xs ys x same = all_has (Has xs) ys x (all-permutation (Has xs) xs ys same (all_from (Has xs) xs (λ e h. h)))

map_has : {A B : Type 0} (f : A → B) (xs : List A) (x : A) → Has xs x → Has (map f xs) (f x)
map_has f [] x h = absurd h
map_has f (y ∷ xs) x (inl same) = inl (ap f same)
map_has f (y ∷ xs) x (inr later) = inr (map_has f xs x later)

has_map : {A B : Type 0} (f : A → B) (xs : List A) (y : B) → Has (map f xs) y → (x : A) × Has xs x × (y ≡ f x)
has_map f [] y h = absurd h
has_map f (x ∷ xs) y (inl same) = (x, inl refl, same)
has_map f (x ∷ xs) y (inr later) = let found = has_map f xs y later in (found.0, inr found.1, found.2)

module _ {A B : Type 0} (p : A → Bool) (f : A → B) (xs : List A) (rows : List B) (same : IsPermutation (map f (filter p xs)) rows) where
  pub in_answer : (x : A) → Has xs x → p x ≡ true → Has rows (f x)
  in_answer x there is = permuted rows (map f (filter p xs)) (f x) (IsPermutation-sym (map f (filter p xs)) rows same) (map_has f (filter p xs) x (has_kept p xs x there is))

  pub from_answer : (y : B) → Has rows y → (x : A) × Has xs x × (p x ≡ true) × (y ≡ f x)
  from_answer y there =
      let found = has_map f (filter p xs) y (permuted (map f (filter p xs)) rows y same there) in
      let was = has_filtered p xs found.0 found.1 in
      (found.0, was.0, was.1, found.2)

-- ---- the tests

pub and_true : (c : Bool) → (c && true) ≡ c
and_true true = refl
and_true false = refl
