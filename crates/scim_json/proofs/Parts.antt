-- Objects that are made of parts: their members are found, and they are plain.
use Rattle.std.proofs.Common.{◌≡◌, ℕ, ◌≤◌, List, [], ◌∷◌, Bool, true, false, not, cond, ◌&&◌, ◌||◌, Option, None, Some, Ordering, Less, Equal, Greater, nat_cmp, refl, sym, ap, ◌∙◌, arith}
use Rattle.std.proofs.lemmas.Bool.{and_parts}
use Rattle.std.proofs.lemmas.Slice.Eq.{bytes_eq-Decides}
use Rattle.std.specs.Prelude.{⊤}
use Rattle.std.specs.Cmp.Lexicographic.{slice_cmp}
use Rattle.std.specs.Ordering.{is_lt}
use Rattle.std.specs.Str.{str_to_ascii_lowercase}
use Rattle.serde_json.specs.Data.{Data, depth, members_depth}
use Rattle.scim_json.specs.Attributes.{same_name, named, has_name, repeats}
use Rattle.scim_json.specs.Plain.{IsBelow, IsPlain, MembersArePlain}
use Rattle.scim_json.specs.Writing.{Part, members_from}

-- ---- tests on the names of parts, which compute if the names are literals

abbrev pub is_below : List ℕ → List Part → Bool
is_below name [] = true
is_below name (p ∷ ps) = is_lt (slice_cmp nat_cmp name p.0) && is_below name ps

-- each name comes before the later ones, in byte order
abbrev pub are_rising : List Part → Bool
are_rising [] = true
are_rising (p ∷ ps) = is_below p.0 ps && are_rising ps

abbrev pub is_apart : List ℕ → List Part → Bool
is_apart name [] = true
is_apart name (p ∷ ps) = not (same_name name p.0) && is_apart name ps

-- no two names are equal in lowered letters
abbrev pub are_apart : List Part → Bool
are_apart [] = true
are_apart (p ∷ ps) = is_apart p.0 ps && are_apart ps

-- the value of the first part with this name, in any case
abbrev pub part_named : List ℕ → List Part → Option Data
part_named name [] = None
part_named name (p ∷ ps) = cond (same_name p.0 name) p.1 (part_named name ps)

is_less : (o : Ordering) → is_lt o ≡ true → o ≡ Less
is_less Less h = refl
is_less Equal h = cc
is_less Greater h = cc

-- ---- finding a part

other_name : (b c : Bool) (k l name : List ℕ) → same_name k name ≡ b → same_name l name ≡ c → not (same_name k l) ≡ true → b ≡ true → c ≡ false
other_name b true k l name here there apart is =
    let one : str_to_ascii_lowercase k ≡ str_to_ascii_lowercase name = (bytes_eq-Decides _ _).0 (here ∙ is) in
    let two : str_to_ascii_lowercase l ≡ str_to_ascii_lowercase name = (bytes_eq-Decides _ _).0 there in
    let same : same_name k l ≡ true = (bytes_eq-Decides _ _).1 (one ∙ sym two) in
    sym apart ∙ ap not same
other_name b false k l name here there apart is = refl

no_part_named : (k name : List ℕ) (ps : List Part) → same_name k name ≡ true → is_apart k ps ≡ true → part_named name ps ≡ None
no_part_named k name [] here apart = refl
no_part_named k name (p ∷ ps) here apart =
    let both = and_parts (not (same_name k p.0)) _ apart in
    let away = other_name _ _ k p.0 name here refl both.0 refl in
    ap (λ b. cond b p.1 (part_named name ps)) away ∙ no_part_named k name ps here both.1

skipped : (b : Bool) (rest : Option Data) → (b ≡ true → rest ≡ None) → rest ≡ cond b None rest
skipped true rest none = none refl
skipped false rest none = refl

-- if no two names are equal in lower case, each part is found under its name
pub named-members_from : (name : List ℕ) (ps : List Part) → are_apart ps ≡ true → named name (members_from ps) ≡ part_named name ps
unfolding named
named-members_from name [] h = refl
named-members_from name ((k, None) ∷ ps) h =
    let both = and_parts (is_apart k ps) _ h in
    named-members_from name ps both.1 ∙ skipped (same_name k name) (part_named name ps) (λ here. no_part_named k name ps here both.0)
named-members_from name ((k, Some d) ∷ ps) h =
    let both = and_parts (is_apart k ps) _ h in
    ap (cond (same_name k name) (Some d)) (named-members_from name ps both.1)

nor : (a b : Bool) → a ≡ false → b ≡ false → (a || b) ≡ false
nor true b h g = h
nor false b h g = g

no : (b : Bool) → not b ≡ true → b ≡ false
no true h = sym h
no false h = refl

has_name-members_from : (name : List ℕ) (ps : List Part) → is_apart name ps ≡ true → has_name name (members_from ps) ≡ false
unfolding has_name
has_name-members_from name [] h = refl
has_name-members_from name ((k, None) ∷ ps) h = has_name-members_from name ps (and_parts (not (same_name name k)) _ h).1
has_name-members_from name ((k, Some d) ∷ ps) h =
    let both = and_parts (not (same_name name k)) _ h in
    nor (same_name name k) _ (no (same_name name k) both.0) (has_name-members_from name ps both.1)

-- an object of parts whose names are apart repeats none
pub repeats-members_from : (ps : List Part) → are_apart ps ≡ true → repeats (members_from ps) ≡ false
unfolding repeats
repeats-members_from [] h = refl
repeats-members_from ((k, None) ∷ ps) h = repeats-members_from ps (and_parts (is_apart k ps) _ h).1
repeats-members_from ((k, Some d) ∷ ps) h =
    let both = and_parts (is_apart k ps) _ h in
    nor (has_name k (members_from ps)) _ (has_name-members_from k ps both.0) (repeats-members_from ps both.1)

-- ---- plain data

abbrev pub IsPlainIf : Option Data → Type 0
IsPlainIf None = ⊤
IsPlainIf (Some d) = IsPlain d

abbrev pub ArePlainIf : List Part → Type 0
ArePlainIf [] = ⊤
ArePlainIf (p ∷ ps) = IsPlainIf p.1 × ArePlainIf ps

IsBelow-members_from : (k : List ℕ) (ps : List Part) → is_below k ps ≡ true → IsBelow k (members_from ps)
IsBelow-members_from k [] h = tt
IsBelow-members_from k ((l, None) ∷ ps) h = IsBelow-members_from k ps (and_parts (is_lt (slice_cmp nat_cmp k l)) _ h).1
IsBelow-members_from k ((l, Some e) ∷ ps) h =
    let both = and_parts (is_lt (slice_cmp nat_cmp k l)) _ h in
    (is_less _ both.0, IsBelow-members_from k ps both.1)

pub MembersArePlain-members_from : (ps : List Part) → are_rising ps ≡ true → ArePlainIf ps → MembersArePlain (members_from ps)
MembersArePlain-members_from [] h plain = tt
MembersArePlain-members_from ((k, None) ∷ ps) h plain = MembersArePlain-members_from ps (and_parts (is_below k ps) _ h).1 plain.1
MembersArePlain-members_from ((k, Some d) ∷ ps) h plain =
    let both = and_parts (is_below k ps) _ h in
    (IsBelow-members_from k ps both.0, plain.0, MembersArePlain-members_from ps both.1 plain.1)

abbrev pub depth_if : Option Data → ℕ
depth_if None = 0
depth_if (Some d) = depth d

abbrev pub AreWithin : ℕ → List Part → Type 0
AreWithin n [] = ⊤
AreWithin n (p ∷ ps) = (depth_if p.1 ≤ n) × AreWithin n ps

pub members_depth-members_from : (n : ℕ) (ps : List Part) → AreWithin n ps → members_depth (members_from ps) ≤ n
members_depth-members_from n [] h = omega arith
members_depth-members_from n ((k, None) ∷ ps) h = members_depth-members_from n ps h.1
members_depth-members_from n ((k, Some d) ∷ ps) h = omega (arith, h.0, members_depth-members_from n ps h.1)
