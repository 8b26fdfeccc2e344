-- The rows of a table under a put and a removal, and the rows that have a number.
use Rattle.std.proofs.Common.{◌≡◌, ℤ, Bool, true, false, not, cond, List, [], ◌∷◌, filter, Ordering, Less, Equal, Greater, refl, ap, ◌∙◌}
use Rattle.std.specs.Ordering.{is_eq, int_eq, match_ordering}
use Rattle.std.proofs.lemmas.Bool.{or_parts}
use Rattle.sqlite_value.specs.declared.value.Value.{Value}
use Rattle.sqlite_value.specs.declared.value.Value.TheVariants.{Int}
use Rattle.sqlite_value.specs.Order.{Row, value_cmp}
use Rattle.sqlite_trees.specs.Tree.{rowid, has_rowid, put_row, without_rowid}
use Rattle.sqlite_rules.specs.Edit.{is_taken}
use Rattle.sqlite_value.proofs.OrderLemmas.{value_cmp_total, value_cmp-Int}
use Rattle.sqlite_trees.proofs.ListLemmas.{filter-filter}

equal_from : (o : Ordering) → is_eq o ≡ true → o ≡ Equal
equal_from Less same = absurd (cc)
equal_from Equal same = refl
equal_from Greater same = absurd (cc)

-- ---- a put

abbrev Put : Ordering → Row → Row → List Row → List Row
Put o new r rows = match_ordering o (r ∷ put_row new rows) (new ∷ rows) (new ∷ r ∷ rows)

-- a test that the new row fails finds what it found
pub put_other : (p : Row → Bool) (new : Row) (rows : List Row) → p new ≡ false → is_taken rows new ≡ false → filter p (put_row new rows) ≡ filter p rows
put_other p new [] fails free = rw fails refl
put_other p new (r ∷ rows) fails free = go (value_cmp (rowid r) (rowid new)) (or_parts _ _ free).0 (put_other p new rows fails (or_parts _ _ free).1)
  where
    go : (o : Ordering) → is_eq o ≡ false → filter p (put_row new rows) ≡ filter p rows → filter p (Put o new r rows) ≡ filter p (r ∷ rows)
    go Less other ih = ap (λ l. cond (p r) (r ∷ l) l) ih
    go Equal other ih = absurd (cc)
    go Greater other ih = rw fails refl

none_after : (p : Row → Bool) (r : Row) (rows : List Row) → filter p (r ∷ rows) ≡ [] → (p r ≡ false) × (filter p rows ≡ [])
none_after p r rows none = go (p r) refl none
  where
    go : (b : Bool) → p r ≡ b → cond b (r ∷ filter p rows) (filter p rows) ≡ [] → (p r ≡ false) × (filter p rows ≡ [])
    go true is e = absurd (cc)
    go false is e = (is, e)

-- and a test that only it passes finds it
pub put_here : (p : Row → Bool) (new : Row) (rows : List Row) → p new ≡ true → filter p rows ≡ [] → filter p (put_row new rows) ≡ new ∷ []
put_here p new [] passes none = rw passes refl
put_here p new (r ∷ rows) passes none =
    let parts = none_after p r rows none in go (value_cmp (rowid r) (rowid new)) parts.0 parts.1 (put_here p new rows passes parts.1)
  where
    go : (o : Ordering) → p r ≡ false → filter p rows ≡ [] → filter p (put_row new rows) ≡ new ∷ [] → filter p (Put o new r rows) ≡ new ∷ []
    go Less fails rest ih = rw fails ih
    go Equal fails rest ih = rw passes (ap (λ l. new ∷ l) rest)
    go Greater fails rest ih = rw passes (ap (λ l. new ∷ l) none)

-- ---- a removal

pub without_here : (id : ℤ) (rows : List Row) → filter (has_rowid id) (without_rowid id rows) ≡ []
without_here id [] = refl
without_here id (r ∷ rows) = go (has_rowid id r) refl (without_here id rows)
  where
    go : (b : Bool) → has_rowid id r ≡ b → filter (has_rowid id) (without_rowid id rows) ≡ [] → filter (has_rowid id) (cond (not b) (r ∷ without_rowid id rows) (without_rowid id rows)) ≡ []
    go true is ih = ih
    go false is ih = rw is ih

pub without_other : (p : Row → Bool) (id : ℤ) → ((r : Row) → p r ≡ true → has_rowid id r ≡ false) → (rows : List Row) → filter p (without_rowid id rows) ≡ filter p rows
without_other p id apart rows = filter-filter p (λ r. not (has_rowid id r)) (λ r is. ap not (apart r is)) rows

-- nothing is taken if no row has the number
pub free : (id : ℤ) (new : Row) (rows : List Row) → rowid new ≡ Int id → filter (has_rowid id) rows ≡ [] → is_taken rows new ≡ false
free id new [] is none = refl
free id new (r ∷ rows) is none =
    let parts = none_after (has_rowid id) r rows none in
    let here : is_eq (value_cmp (rowid r) (rowid new)) ≡ false = rw is parts.0 in
    rw (here, free id new rows is parts.1) refl

-- a row has one number
pub one_rowid : (r : Row) (m n : ℤ) → has_rowid m r ≡ true → int_eq m n ≡ false → has_rowid n r ≡ false
one_rowid r m n here apart =
    alike_left (rowid r) (Int m) (Int n) here ∙ ap is_eq (value_cmp-Int m n) ∙ apart
  where
    alike_left : (a b c : Value) → is_eq (value_cmp a b) ≡ true → is_eq (value_cmp a c) ≡ is_eq (value_cmp b c)
    alike_left a b c same = ap is_eq (value_cmp_total.congr a b c (equal_from _ same))
