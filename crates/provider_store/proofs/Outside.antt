-- A row with a higher number passes the test for numbers outside the first ones.
use Rattle.std.proofs.Common.{◌≡◌, ◌<◌, ℕ, nat_lt, pos, Bool, true, false, ◌||◌, cond, List, [], ◌∷◌, filter, Ordering, Less, Equal, Greater, int_cmp, Option, None, Some, refl, sym, ap, ◌∙◌, arith}
use Rattle.std.specs.Ordering.{is_eq, is_lt, is_gt}
use Rattle.std.proofs.lemmas.Bool.{false_from_ne_true}
use Rattle.std.proofs.lemmas.Bool.Decides.{Decides-ltb}
use Rattle.sqlite_value.specs.declared.value.Value.{Value}
use Rattle.sqlite_value.specs.declared.value.Value.TheVariants.{Null, Int, Real, Text, Blob}
use Rattle.sqlite_value.specs.declared.keys.Collation.TheVariants.{Binary}
use Rattle.sqlite_value.specs.Order.{Row, column, value_cmp}
use Rattle.sqlite_value.proofs.OrderLemmas.{value_cmp_total, value_cmp-Int, value_cmp-Null}
use Rattle.sqlite_sql.specs.Ops.{binary, is_true, truth, from_truth, or3}
use Rattle.sqlite_sql.specs.declared.ops.BinaryOp.TheVariants.{Compare, Or}
use Rattle.sqlite_sql.specs.declared.ops.CompareOp.TheVariants.{Lt, Gt}
use Rattle.sqlite_trees.specs.Tree.{rowid, has_rowid}
use Rattle.provider_store.specs.Lawful.{is_outside}
use Rattle.provider_store.proofs.Texts.{outside_term}
use Rattle.sql_tables.proofs.Selecting.{passes, and_true}

greater : (k n : ℕ) → n < k → int_cmp (pos k) (pos n) ≡ Greater
greater k n low =
    let not_less = false_from_ne_true _ (λ (less : nat_lt k n ≡ true). absurd (omega (arith, (Decides-ltb k n).0 less, low))) in
    rw (not_less, (Decides-ltb n k).1 low) refl

equal_from : (o : Ordering) → is_eq o ≡ true → o ≡ Equal
equal_from Less same = absurd (cc)
equal_from Equal same = refl
equal_from Greater same = absurd (cc)

ranks : (v : Value) (k n : ℕ) → n < k → is_eq (value_cmp v (Int (pos k))) ≡ true → value_cmp v (Int (pos n)) ≡ Greater
ranks v k n low same = value_cmp_total.congr v (Int (pos k)) (Int (pos n)) (equal_from _ same) ∙ value_cmp-Int (pos k) (pos n) ∙ greater k n low

above : (v : Value) (k n : ℕ) → n < k → is_eq (value_cmp v (Int (pos k))) ≡ true → binary (Compare Gt Binary) v (Int (pos n)) ≡ Int (pos 1)
unfolding binary
above Null k n low same = absurd (let never = sym same ∙ ap is_eq (value_cmp-Null (Int (pos k))) in cc)
above (Int m) k n low same = rw (ranks (Int m) k n low same) refl
above (Real x) k n low same = rw (ranks (Real x) k n low same) refl
above (Text t) k n low same = rw (ranks (Text t) k n low same) refl
above (Blob b) k n low same = rw (ranks (Blob b) k n low same) refl

either : (a : Value) → is_true (binary Or a (Int (pos 1))) ≡ true
unfolding binary
either v = of (truth v)
  where
    of : (o : Option Bool) → is_true (from_truth (or3 o (Some true))) ≡ true
    of None = refl
    of (Some true) = refl
    of (Some false) = refl

or_is : (a b : Bool) → is_true (from_truth (or3 (truth (from_truth (Some a))) (truth (from_truth (Some b))))) ≡ (a || b)
or_is true true = refl
or_is true false = refl
or_is false true = refl
or_is false false = refl

either_is : (count : ℕ) (v : Value) → is_true (binary Or (binary (Compare Lt Binary) v (Int (pos 1))) (binary (Compare Gt Binary) v (Int (pos count)))) ≡ is_outside count v
unfolding binary
either_is count Null = refl
either_is count (Int m) = or_is (is_lt (value_cmp (Int m) (Int (pos 1)))) (is_gt (value_cmp (Int m) (Int (pos count))))
either_is count (Real x) = or_is (is_lt (value_cmp (Real x) (Int (pos 1)))) (is_gt (value_cmp (Real x) (Int (pos count))))
either_is count (Text t) = or_is (is_lt (value_cmp (Text t) (Int (pos 1)))) (is_gt (value_cmp (Text t) (Int (pos count))))
either_is count (Blob b) = or_is (is_lt (value_cmp (Blob b) (Int (pos 1)))) (is_gt (value_cmp (Blob b) (Int (pos count))))

-- the test for numbers outside is the one of the definition
pub outside_tests : (count : ℕ) (r : Row) → passes (outside_term ∷ []) (Int (pos count) ∷ []) r ≡ is_outside count (rowid r)
outside_tests count r = and_true _ ∙ either_is count (column r 0)

pub outside_passes : (count k : ℕ) (r : Row) → count < k → has_rowid (pos k) r ≡ true → passes (outside_term ∷ []) (Int (pos count) ∷ []) r ≡ true
outside_passes count k r low has =
    let over = above (column r 0) k count low has in
    rw (over, either (binary (Compare Lt Binary) (column r 0) (Int (pos 1)))) refl

-- if nothing passes a weaker test, nothing passes this one
pub none_passes : (p q : Row → Bool) (rows : List Row) → ((r : Row) → q r ≡ true → p r ≡ true) → filter p rows ≡ [] → filter q rows ≡ []
none_passes p q [] weaker none = refl
none_passes p q (r ∷ rows) weaker none = go (p r) (q r) refl refl (none_passes p q rows weaker) none
  where
    go : (b c : Bool) → p r ≡ b → q r ≡ c → (filter p rows ≡ [] → filter q rows ≡ []) → cond b (r ∷ filter p rows) (filter p rows) ≡ [] → cond c (r ∷ filter q rows) (filter q rows) ≡ []
    go true c is other ih e = absurd (cc)
    go false true is other ih e = absurd (let clash = sym is ∙ weaker r other in cc)
    go false false is other ih e = ih e
