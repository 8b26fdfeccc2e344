-- The names of a connector's records are apart, in whichever order they are pushed.
use Rattle.std.proofs.Common.{◌≡◌, ◌≢◌, ◌++◌, Bool, true, false, not, ◌&&◌, List, [], ◌∷◌, map, refl, sym, subst, Ordering, Less, Equal, Greater}
use Rattle.std.proofs.lemmas.List.Sorted.{IsPermutation-filter_both, IsPermutation-trans}
use Rattle.std.proofs.lemmas.Map.Keys.{IsDistinct-from_sorted, IsDistinct-IsPermutation}
use Rattle.std.specs.Cmp.{eq_by_cmp_equiv}
use Rattle.std.specs.FinMap.{FinMap, entries, entries_sorted, is_sorted, keys}
use Rattle.std.specs.FinMap.Entries.{below_all}
use Rattle.std.specs.List.{AllByRecursion, IsDistinct, filter}
use Rattle.std.specs.List.Sorted.{IsPermutation, IsStrictlySortedBy}
use Rattle.std.specs.Ordering.{eq_by_cmp, is_lt}
use Rattle.std.specs.Prelude.{T}
use Rattle.scim_key.specs.RecordOrder.{names_total}
use Rattle.scim_key.specs.Records.{name_cmp}
use Rattle.scim_key.specs.declared.records.RecordName.{RecordName}
use Rattle.world_sim.proofs.WholeRuns.{all_front}
use Rattle.promise.proofs.Bags.{AreApart, all_weaker}

-- ---- the keys of a map

both_true : (a b : Bool) → T (a && b) → T a × T b
both_true true b t = (tt, t)
both_true false b t = absurd t

is_less : (o : Ordering) → T (is_lt o) → o ≡ Less
is_less Less t = refl
is_less Equal t = absurd t
is_less Greater t = absurd t

below : {X : Type 0} (name : RecordName) (es : List (RecordName × X)) → T (below_all name_cmp name es) → AllByRecursion (λ y. name_cmp name y ≡ Less) (map (λ e. e.0) es)
below name [] t = tt
below name (e ∷ es) t = let both = both_true (is_lt (name_cmp name e.0)) (below_all name_cmp name es) t in (is_less _ both.0, below name es both.1)

rising : {X : Type 0} (es : List (RecordName × X)) → T (is_sorted name_cmp es) → IsStrictlySortedBy name_cmp (map (λ e. e.0) es)
unfolding IsStrictlySortedBy
rising [] t = tt
rising (e ∷ es) t = let both = both_true (below_all name_cmp e.0 es) (is_sorted name_cmp es) t in (below e.0 es both.0, rising es both.1)

-- ---- in any order

true_is_not_false : (b : Bool) → b ≡ true → b ≡ false → ⊥
true_is_not_false true one other = absurd (cc)
true_is_not_false false one other = absurd (cc)

not_alike : (x y : RecordName) → eq_by_cmp name_cmp x y ≡ false → y ≢ x
not_alike x y apart same =
    true_is_not_false (eq_by_cmp name_cmp x y) (subst (λ (z : RecordName). eq_by_cmp name_cmp x z ≡ true) (sym same) ((eq_by_cmp_equiv names_total).refl x)) apart

apart_names : (names : List RecordName) → IsDistinct (eq_by_cmp name_cmp) names → AreApart names
unfolding IsDistinct
apart_names [] distinct = tt
apart_names (name ∷ names) distinct = (all_weaker (λ y. eq_by_cmp name_cmp name y ≡ false) (λ y. y ≢ name) (not_alike name) names distinct.0, apart_names names distinct.1)

pub keys_apart : {X : Type 0} (m : FinMap name_cmp X) (names : List RecordName) → IsPermutation (keys m) names → AreApart names
keys_apart m names same =
    apart_names names (IsDistinct-IsPermutation (eq_by_cmp name_cmp) ((eq_by_cmp_equiv names_total).symm) (keys m) names same
    (IsDistinct-from_sorted name_cmp (keys m) (rising (entries m) (entries_sorted m))))

pub parted : (p : RecordName → Bool) (names settled : List RecordName) → IsPermutation names settled → IsPermutation names (filter p settled ++ filter (λ name. not (p name)) settled)
parted p names settled same = IsPermutation-trans names settled (filter p settled ++ filter (λ name. not (p name)) settled) same
    (IsPermutation-filter_both p (λ name. not (p name)) (λ name. refl) settled)

-- ---- a part of them

pub apart_front : (xs ys : List RecordName) → AreApart (xs ++ ys) → AreApart xs
apart_front [] ys apart = tt
apart_front (x ∷ xs) ys apart = (all_front (λ y. y ≢ x) xs ys apart.0, apart_front xs ys apart.1)

pub apart_back : (xs ys : List RecordName) → AreApart (xs ++ ys) → AreApart ys
apart_back [] ys apart = apart
apart_back (x ∷ xs) ys apart = apart_back xs ys apart.1
