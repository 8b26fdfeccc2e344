-- The differences in some aspects, one after another.
use Rattle.std.proofs.Common.{◌≡◌, ℕ, ◌+◌, ◌<◌, ◌≤◌, Bool, true, false, List, ◌++◌, length, get_or, drop, refl, ap, ◌∙◌, add-one, append_assoc}
use Rattle.std.specs.Bool.{if◌then◌else◌}
use Rattle.std.proofs.lemmas.List.{append-nil, drop_all}
use Rattle.std.proofs.Math.Seq.{drop-cons}
use Rattle.comparing.specs.Aspects.{agree}
use Rattle.checking.specs.Lines.{difference_text, differences_text, separator}
use Rattle.comparing.specs.declared.aspects.Aspect.{Aspect}
use Rattle.scim_resource.specs.declared.contents.Content.{Content}

-- the aspect at this place, and those behind it
step : (w v : Content) (first : Bool) (aspects : List Aspect) (i : ℕ) (d : Aspect) → i < length aspects
    → differences_text w v first (drop i aspects) ≡ (if agree w v (get_or aspects i d)
    then differences_text w v first (drop (i + 1) aspects)
    else separator first
    ++ (difference_text w v (get_or aspects i d) ++ differences_text w v false (drop (i + 1) aspects)))
unfolding differences_text
step w v first aspects i d h = rw (drop-cons aspects i d h, add-one) refl

-- it agrees: nothing is printed
pub agreed : (w v : Content) (first : Bool) (all written : List ℕ) (aspects : List Aspect) (i : ℕ) (d : Aspect)
    → i < length aspects → all ≡ written ++ differences_text w v first (drop i aspects)
    → agree w v (get_or aspects i d) ≡ true
    → all ≡ written ++ differences_text w v first (drop (i + 1) aspects)
agreed w v first all written aspects i d h e same =
    let next : differences_text w v first (drop i aspects) ≡ differences_text w v first (drop (i + 1) aspects) =
    step w v first aspects i d h ∙ rw same refl in
    e ∙ ap (λ l. written ++ l) next

-- it differs: that is printed
pub differed : (w v : Content) (first : Bool) (all written : List ℕ) (aspects : List Aspect) (i : ℕ) (d : Aspect)
    → i < length aspects → all ≡ written ++ differences_text w v first (drop i aspects)
    → agree w v (get_or aspects i d) ≡ false
    → all ≡ (written ++ (separator first ++ difference_text w v (get_or aspects i d)))
    ++ differences_text w v false (drop (i + 1) aspects)
differed w v first all written aspects i d h e other =
    let rest : List ℕ = differences_text w v false (drop (i + 1) aspects) in
    let one : List ℕ = difference_text w v (get_or aspects i d) in
    let next : differences_text w v first (drop i aspects) ≡ separator first ++ (one ++ rest) =
    step w v first aspects i d h ∙ rw other refl in
    let moved : written ++ (separator first ++ (one ++ rest)) ≡ (written ++ (separator first ++ one)) ++ rest =
    simp append_assoc in
    e ∙ ap (λ l. written ++ l) next ∙ moved

-- nothing is left behind the last
pub ended : (w v : Content) (first : Bool) (all written : List ℕ) (aspects : List Aspect) (i : ℕ)
    → length aspects ≤ i → all ≡ written ++ differences_text w v first (drop i aspects) → all ≡ written
unfolding differences_text
ended w v first all written aspects i h e =
    e ∙ ap (λ l. written ++ differences_text w v first l) (drop_all i aspects h) ∙ append-nil written
