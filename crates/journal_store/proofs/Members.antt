-- Keys that a search finds.
use Rattle.std.proofs.Common.{◌≡◌, ◌≤◌, ◌<◌, ℕ, zero, suc, false, nat_lt, List, [], ◌∷◌, length, get_or, Result, Ok, Err, IfOk, Less, Equal, Greater, nat_cmp, refl, sym, ap, subst, ◌∙◌, inl, inr, arith}
use Rattle.std.specs.Cmp.Lexicographic.{slice_cmp}
use Rattle.std.specs.FinMap.{nat_cmp-IsAntisymmetric, slice_cmp-IsAntisymmetric}
use Rattle.std.specs.List.{HoldsAt}
use Rattle.std.specs.List.Sorted.{IsBinarySearchResult, IsNonDecreasingBy, IsSearchInRange, IsStrictlySortedBy}
use Rattle.std.specs.Ordering.{ordering_index}
use Rattle.std.specs.declared.cmp.Ordering.{Ordering}
use Rattle.std.specs.Result.{is_ok}
use Rattle.std.specs.Prelude.{IsTrue}
use Rattle.std.proofs.lemmas.Bool.{cases_Bool}
use Rattle.std.proofs.lemmas.Bool.Decides.{nat_tests}
use Rattle.std.proofs.lemmas.Cmp.{nat_list_cmp_total, tied_itself}
use Rattle.sqlite_trees.proofs.ListLemmas.{all-get_or}
use Rattle.sqlite_rules.specs.Lists.{Has}
use Rattle.sqlite_rules.proofs.ListLemmas.{has_at}
use Rattle.journal_store.specs.Opening.{AreInOrder}

pub found_among : (keys : List (List ℕ)) (key : List ℕ) (r : Result ℕ ℕ) → IsSearchInRange r (length keys) → IfOk r (HoldsAt (λ y. slice_cmp nat_cmp y key ≡ Equal) keys) → IsTrue (is_ok r) → Has keys key
found_among keys key (Ok at) within found is = has_at keys at key within (sym (slice_cmp-IsAntisymmetric nat_cmp-IsAntisymmetric (get_or keys at key) key (found key)))
found_among keys key (Err at) within found is = absurd (cc)

-- ---- and keys that it doesn't

at_most : (o : Ordering) → ordering_index o ≤ 2
at_most Less = omega arith
at_most Equal = omega arith
at_most Greater = omega arith

rank_rises : (x y key : List ℕ) → slice_cmp nat_cmp x y ≡ Less → ordering_index (slice_cmp nat_cmp x key) ≤ ordering_index (slice_cmp nat_cmp y key)
rank_rises x y key less = go (slice_cmp nat_cmp y key) refl
  where
    first : slice_cmp nat_cmp x key ≡ Less → (o : Ordering) → ordering_index (slice_cmp nat_cmp x key) ≤ ordering_index o
    first low o = rw low (omega arith)

    go : (o : Ordering) → slice_cmp nat_cmp y key ≡ o → ordering_index (slice_cmp nat_cmp x key) ≤ ordering_index o
    go Less is = first (nat_list_cmp_total.trans x y key less is) Less
    go Equal is = first (subst (λ z. slice_cmp nat_cmp x z ≡ Less) (slice_cmp-IsAntisymmetric nat_cmp-IsAntisymmetric y key is) less) Equal
    go Greater is = at_most (slice_cmp nat_cmp x key)

ranks_rise : (keys : List (List ℕ)) (key : List ℕ) → AreInOrder keys → IsNonDecreasingBy (λ y. ordering_index (slice_cmp nat_cmp y key)) keys
unfolding IsStrictlySortedBy
ranks_rise [] key rising i j d low high = absurd (omega (arith, high))
ranks_rise (x ∷ keys) key rising zero zero d low high = omega arith
ranks_rise (x ∷ keys) key rising zero (suc j) d low high = rank_rises x (get_or keys j d) key (all-get_or (λ y. slice_cmp nat_cmp x y ≡ Less) keys j d rising.0 (omega (arith, high)))
ranks_rise (x ∷ keys) key rising (suc i) zero d low high = absurd (omega (arith, low))
ranks_rise (x ∷ keys) key rising (suc i) (suc j) d low high = ranks_rise keys key rising.1 i j d (omega (arith, low)) (omega (arith, high))

place_of : (keys : List (List ℕ)) (key : List ℕ) → Has keys key → (at : ℕ) × (at < length keys) × (get_or keys at key ≡ key)
place_of [] key there = absurd there
place_of (x ∷ keys) key (inl same) = (0, omega arith, sym same)
place_of (x ∷ keys) key (inr later) = let it = place_of keys key later in (suc it.0, omega (arith, it.1), it.2)

pub not_among : (keys : List (List ℕ)) (key : List ℕ) (r : Result ℕ ℕ) → IsBinarySearchResult (λ y. slice_cmp nat_cmp y key) keys r → is_ok r ≡ false → AreInOrder keys → Has keys key → ⊥
not_among keys key (Ok at) found none rising there = absurd (cc)
not_among keys key (Err at) found none rising there =
    let point = found (ranks_rise keys key rising) in
    let it = place_of keys key there in
    let tied : slice_cmp nat_cmp (get_or keys it.0 key) key ≡ Equal = ap (λ k. slice_cmp nat_cmp k key) it.2 ∙ tied_itself nat_list_cmp_total key in
    elim (cases_Bool (nat_lt it.0 at)) [
      | inl before ↦ let clash : Less ≡ Equal = sym (point.0 it.0 key (omega arith) (grind (arith, nat_tests))) ∙ tied in cc
      | inr after ↦ let clash : Greater ≡ Equal = sym (point.1 it.0 key (grind (arith, nat_tests)) it.1) ∙ tied in cc
    ]
