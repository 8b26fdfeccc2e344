-- What is in a list: filtered, at its end, and with more elements after it.
use Rattle.std.proofs.Common.{length, ◌<◌, arith, ◌≡◌, ℕ, zero, suc, Bool, true, false, cond, List, [], ◌∷◌, Some, None, refl, ap, sym, ◌∙◌, subst}
use Rattle.std.specs.List.{filter, last_or, slice_get}
use Rattle.world_model.specs.Safe.{IsAt, Has}

passes_cond : {X : Type 0} (p : X → Bool) (b : Bool) (x : X) (rest : List X) (i : ℕ) (y : X) → p x ≡ b → ((k : ℕ) → IsAt rest k y → p y ≡ true)
    → IsAt (cond b (x ∷ rest) rest) i y → p y ≡ true
passes_cond p true x rest zero y test later at = let same : x ≡ y = cc in ap p (sym same) ∙ test
passes_cond p true x rest (suc i) y test later at = later i at
passes_cond p false x rest i y test later at = later i at

-- what a filter kept passes it
pub at_passes : {X : Type 0} (p : X → Bool) (xs : List X) (i : ℕ) (y : X) → IsAt (filter p xs) i y → p y ≡ true
at_passes p [] i y at = absurd (cc)
at_passes p (x ∷ xs) i y at = passes_cond p (p x) x (filter p xs) i y refl (λ k. at_passes p xs k y) at

-- the last element is in the list
pub at_last : {X : Type 0} (xs : List X) (x y : X) → last_or (Some x) xs ≡ Some y → Has (x ∷ xs) y
at_last [] x y is = (0, is)
at_last (z ∷ xs) x y is = let rest = at_last xs z y is in (suc rest.0, rest.1)

pub last_has : {X : Type 0} (xs : List X) (y : X) → last_or None xs ≡ Some y → Has xs y
last_has [] y is = absurd (cc)
last_has (x ∷ xs) y is = at_last xs x y is

some_last : {X : Type 0} (xs : List X) (x : X) → (y : X) × (last_or (Some x) xs ≡ Some y)
some_last [] x = (x, refl)
some_last (z ∷ xs) x = some_last xs z

-- a list that has an element has a last one
pub has_last : {X : Type 0} (xs : List X) (x : X) → Has xs x → (y : X) × (last_or None xs ≡ Some y)
has_last [] x has = absurd (cc has.1)
has_last (z ∷ xs) x has = some_last xs z

cond_has : {X : Type 0} (b : Bool) (x : X) (xs rest : List X) (i : ℕ) (y : X) → ((k : ℕ) → IsAt rest k y → Has xs y) → IsAt (cond b (x ∷ rest) rest) i y → Has (x ∷ xs) y
cond_has true x xs rest zero y later at = (0, at)
cond_has true x xs rest (suc i) y later at = let found = later i at in (suc found.0, found.1)
cond_has false x xs rest i y later at = let found = later i at in (suc found.0, found.1)

-- what a filter kept was in the list
pub filter_has : {X : Type 0} (p : X → Bool) (xs : List X) (i : ℕ) (y : X) → IsAt (filter p xs) i y → Has xs y
filter_has p [] i y at = absurd (cc)
filter_has p (x ∷ xs) i y at = cond_has (p x) x xs (filter p xs) i y (λ k. filter_has p xs k y) at

has_cond : {X : Type 0} (b : Bool) (x : X) (rest : List X) (y : X) → Has rest y → Has (cond b (x ∷ rest) rest) y
has_cond true x rest y has = (suc has.0, has.1)
has_cond false x rest y has = has

-- a filter keeps what passes it
pub kept_has : {X : Type 0} (p : X → Bool) (xs : List X) (i : ℕ) (y : X) → IsAt xs i y → p y ≡ true → Has (filter p xs) y
kept_has p [] i y at test = absurd (cc)
kept_has {X} p (x ∷ xs) zero y at test =
    let same : x ≡ y = cc in
    let passes : p x ≡ true = ap p same ∙ test in
    subst (λ (b : Bool). Has (cond b (x ∷ filter p xs) (filter p xs)) y) (sym passes) (0, at)
kept_has p (x ∷ xs) (suc i) y at test = has_cond (p x) x (filter p xs) y (kept_has p xs i y at test)

-- there is an element at each place below the length
pub at_within : {X : Type 0} (xs : List X) (i : ℕ) → i < length xs → (x : X) × IsAt xs i x
at_within [] i below = absurd (omega (arith, below))
at_within (x ∷ xs) zero below = (x, refl)
at_within (x ∷ xs) (suc i) below = at_within xs i (omega (arith, below))

abbrev TwoPass : {X : Type 0} → (X → Bool) → List X → X → X → Type 0
TwoPass {X} p xs x y = (i j : ℕ) × (i < j) × IsAt xs i x × IsAt xs j y × (p x ≡ true) × (p y ≡ true)

-- two elements that a filter kept were at two places
pub two_kept : {X : Type 0} (p : X → Bool) (xs : List X) (x y : X) (more : List X) → filter p xs ≡ x ∷ y ∷ more → TwoPass p xs x y
two_kept p [] x y more is = absurd (cc)
two_kept {X} p (z ∷ zs) x y more is = go (p z) refl (two_kept p zs x y more) is
  where
    go : (b : Bool) → p z ≡ b → (filter p zs ≡ x ∷ y ∷ more → TwoPass p zs x y) → cond b (z ∷ filter p zs) (filter p zs) ≡ x ∷ y ∷ more → TwoPass p (z ∷ zs) x y
    go true test later was =
        let first : z ≡ x = cc in
        let rest : filter p zs ≡ y ∷ more = cc in
        let second : IsAt (filter p zs) 0 y = ap (λ l. slice_get l 0) rest in
        let (j, at) = filter_has p zs 0 y second in
        (0, suc j, omega arith, ap Some first, at, ap p (sym first) ∙ test, at_passes p zs 0 y second)
    go false test later was = let (i, j, lt, at_x, at_y, p_x, p_y) = later was in (suc i, suc j, omega (arith, lt), at_x, at_y, p_x, p_y)
