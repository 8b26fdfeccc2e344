-- Entity tags one after the other.
use Rattle.std.proofs.Common.{◌≡◌, ℕ, suc, ◌+◌, ◌<◌, List, [], ◌∷◌, ◌++◌, length, get_or, take, drop, arith, append_assoc, ap, sym, subst, ◌∙◌}
use Rattle.std.proofs.Math.Seq.{take-suc, drop-cons}
use Rattle.std.specs.Prelude.{codes}
use Rattle.std.specs.List.{AllByRecursion, flat_map}
use Rattle.scim_version.specs.Tags.{IsEntityTag}

pushed : (tags : List (List ℕ)) (tag : List ℕ) → AllByRecursion IsEntityTag tags → IsEntityTag tag → AllByRecursion IsEntityTag (tags ++ tag ∷ [])
pushed [] tag all is = (is, tt)
pushed (first ∷ tags) tag all is = (all.0, pushed tags tag all.1 is)

-- one tag more is an entity tag
pub one_more : (tags : List (List ℕ)) (i : ℕ) (tag : List ℕ) → i < length tags → tag ≡ get_or tags i tag → AllByRecursion IsEntityTag (take i tags) → IsEntityTag tag
    → AllByRecursion IsEntityTag (take (i + 1) tags)
one_more tags i tag within is all lawful =
    let next : i + 1 ≡ suc i = omega arith in
    let stepped : take (i + 1) tags ≡ take i tags ++ tag ∷ [] =
    ap (λ n. take n tags) next ∙ take-suc tags i tag within ∙ ap (λ x. take i tags ++ x ∷ []) (sym is) in
    subst (AllByRecursion IsEntityTag) (sym stepped) (pushed (take i tags) tag all lawful)

-- each tag behind a comma and a space
abbrev pub behind : List (List ℕ) → List ℕ
behind tags = flat_map (λ tag. codes ", " ++ tag) tags

-- one tag more is written
pub one_written : (text grown whole : List ℕ) (tags : List (List ℕ)) (i : ℕ) (tag : List ℕ) → i < length tags → tag ≡ get_or tags i tag
    → text ++ behind (drop i tags) ≡ whole → grown ≡ text ++ (codes ", " ++ tag) → grown ++ behind (drop (i + 1) tags) ≡ whole
one_written text grown whole tags i tag within is so_far more =
    let next : suc i ≡ i + 1 = omega arith in
    let here : drop i tags ≡ tag ∷ drop (i + 1) tags =
    drop-cons tags i tag within ∙ ap (λ t. t ∷ drop (suc i) tags) (sym is) ∙ ap (λ n. tag ∷ drop n tags) next in
    ap (λ t. t ++ behind (drop (i + 1) tags)) more ∙ append_assoc text (codes ", " ++ tag) (behind (drop (i + 1) tags))
    ∙ ap (λ rest. text ++ behind rest) (sym here) ∙ so_far
