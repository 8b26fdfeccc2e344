-- Lists in which places have no meaning.
use Rattle.std.proofs.Common.{◌≡◌, ◌≢◌, ◌⊎◌, List, [], ◌∷◌, ◌++◌, map, inl, inr, refl, ap, sym, ◌∙◌, subst}
use Rattle.std.specs.List.{AllByRecursion}
use Rattle.provisioning.specs.Windows.{IsWith}

-- ---- one of them, and the others

-- the same as `IsWith`, from the first place on
abbrev pub Holds : {X : Type 0} → X → (others all : List X) → Type 0
Holds x others [] = ⊥
Holds {X} x others (y ∷ all) = ((x ≡ y) × (others ≡ all)) ⊎ ((rest : List X) × (others ≡ y ∷ rest) × Holds x rest all)

pub holds_at : {X : Type 0} (x : X) (front back : List X) → Holds x (front ++ back) (front ++ x ∷ back)
holds_at x [] back = inl (refl, refl)
holds_at x (y ∷ front) back = inr (front ++ back, refl, holds_at x front back)

pub holds_of : {X : Type 0} (x : X) (others all : List X) → IsWith x others all → Holds x others all
holds_of {X} x others all (front, back, all_is, others_are) =
    subst (λ (l : List X). Holds x l all) (sym others_are) (subst (λ (l : List X). Holds x (front ++ back) l) (sym all_is) (holds_at x front back))

pub with_of : {X : Type 0} (x : X) (others all : List X) → Holds x others all → IsWith x others all
with_of x others [] holds = absurd holds
with_of x others (y ∷ all) (inl (same, are)) = ([], all, ap (λ z. z ∷ all) (sym same), are)
with_of x others (y ∷ all) (inr (rest, are, holds)) =
    let with = with_of x rest all holds in (y ∷ with.0, with.1, ap (λ l. y ∷ l) with.2, are ∙ ap (λ l. y ∷ l) with.3)

-- ---- what holds of each

pub all_of : {X : Type 0} (F : X → Type 0) (x : X) (others all : List X) → Holds x others all → F x → AllByRecursion F others → AllByRecursion F all
all_of F x others [] holds one each = absurd holds
all_of {X} F x others (y ∷ all) (inl (same, are)) one each = (subst F same one, subst (AllByRecursion F) are each)
all_of {X} F x others (y ∷ all) (inr (rest, are, holds)) one each =
    let these : AllByRecursion F (y ∷ rest) = subst (AllByRecursion F) are each in (these.0, all_of F x rest all holds one these.1)

pub one_of : {X : Type 0} (F : X → Type 0) (x : X) (others all : List X) → Holds x others all → AllByRecursion F all → F x × AllByRecursion F others
one_of F x others [] holds each = absurd holds
one_of F x others (y ∷ all) (inl (same, are)) each = (subst F (sym same) each.0, subst (AllByRecursion F) (sym are) each.1)
one_of F x others (y ∷ all) (inr (rest, are, holds)) each =
    let more = one_of F x rest all holds each.1 in (more.0, subst (AllByRecursion F) (sym are) (each.0, more.1))

pub all_weaker : {X : Type 0} (F G : X → Type 0) → ((x : X) → F x → G x) → (xs : List X) → AllByRecursion F xs → AllByRecursion G xs
all_weaker F G weaker [] each = tt
all_weaker F G weaker (x ∷ xs) each = (weaker x each.0, all_weaker F G weaker xs each.1)

-- ---- in other lists

pub holds_mapped : {X Y : Type 0} (f : X → Y) (x : X) (others all : List X) → Holds x others all → Holds (f x) (map f others) (map f all)
holds_mapped f x others [] holds = absurd holds
holds_mapped f x others (y ∷ all) (inl (same, are)) = inl (ap f same, ap (map f) are)
holds_mapped f x others (y ∷ all) (inr (rest, are, holds)) = inr (map f rest, ap (map f) are, holds_mapped f x rest all holds)

pub holds_longer : {X : Type 0} (x : X) (others all more : List X) → Holds x others all → Holds x (others ++ more) (all ++ more)
holds_longer x others [] more holds = absurd holds
holds_longer x others (y ∷ all) more (inl (same, are)) = inl (same, ap (λ l. l ++ more) are)
holds_longer x others (y ∷ all) more (inr (rest, are, holds)) = inr (rest ++ more, ap (λ l. l ++ more) are, holds_longer x rest all more holds)

-- ---- no two are the same

abbrev pub AreApart : {X : Type 0} → List X → Type 0
AreApart [] = Unit {0}
AreApart (x ∷ xs) = AllByRecursion (λ y. y ≢ x) xs × AreApart xs

pub apart_one : {X : Type 0} (x : X) (others all : List X) → Holds x others all → AreApart all → AllByRecursion (λ y. y ≢ x) others × AreApart others
apart_one x others [] holds apart = absurd holds
apart_one {X} x others (y ∷ all) (inl (same, are)) apart =
    subst (λ (l : List X). AllByRecursion (λ z. z ≢ x) l × AreApart l) (sym are) (subst (λ (z : X). AllByRecursion (λ w. w ≢ z) all) (sym same) apart.0, apart.1)
apart_one {X} x others (y ∷ all) (inr (rest, are, holds)) apart =
    let more = apart_one x rest all holds apart.1 in
    let these = one_of (λ z. z ≢ y) x rest all holds apart.0 in
    subst (λ (l : List X). AllByRecursion (λ z. z ≢ x) l × AreApart l) (sym are) ((λ is. these.0 (sym is), more.0), (these.1, more.1))

pub apart_all : {X : Type 0} (x : X) (others all : List X) → Holds x others all → AllByRecursion (λ y. y ≢ x) others → AreApart others → AreApart all
apart_all x others [] holds each apart = absurd holds
apart_all {X} x others (y ∷ all) (inl (same, are)) each apart =
    (subst (λ (l : List X). AllByRecursion (λ z. z ≢ y) l) are (subst (λ (z : X). AllByRecursion (λ w. w ≢ z) others) same each), subst AreApart are apart)
apart_all {X} x others (y ∷ all) (inr (rest, are, holds)) each apart =
    let these : AllByRecursion (λ z. z ≢ x) (y ∷ rest) = subst (AllByRecursion (λ z. z ≢ x)) are each in
    let those : AreApart (y ∷ rest) = subst AreApart are apart in
    (all_of (λ z. z ≢ y) x rest all holds (λ is. these.0 (sym is)) those.0, apart_all x rest all holds these.1 those.1)
