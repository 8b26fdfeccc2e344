-- Each byte of a text in UTF-8 is below 256.
use Rattle.std.proofs.Common.{◌≡◌, ℕ, ◌+◌, ◌/◌, ◌<◌, ◌≤◌, Bool, true, false, cond, List, [], ◌∷◌, ◌++◌, refl, subst, arith, nat_lt, inl, inr, ◌⊎◌}
use Rattle.std.specs.Prelude.{IsUtf8}
use Rattle.std.specs.List.{AllByRecursion}
use Rattle.std.proofs.lemmas.Bool.{ltb-true, and_parts}
use Rattle.std.proofs.Math.Utf8.{scalar, scalars, next, encode, encodes, scalar_cases}

abbrev pub AreBytes : List ℕ → Type 0
AreBytes text = AllByRecursion (λ byte. byte < 256) text

where_test : (test : Bool) (xs ys : List ℕ) → (test ≡ true → AreBytes xs) → AreBytes ys → AreBytes (cond test xs ys)
where_test true xs ys one two = one refl
where_test false xs ys one two = two

below_all : (c : ℕ) → (c < 55296) ⊎ ((57344 ≤ c) × (c < 1114112)) → c < 1114112
below_all c (inl low) = omega (arith, low)
below_all c (inr high) = high.1

char_bytes : (c : ℕ) → scalar c ≡ true → AreBytes (encode c)
unfolding encode
char_bytes c is =
    let small = below_all c (scalar_cases c is) in
    where_test (nat_lt c 128) (c ∷ []) _ (λ low. let h = ltb-true c 128 low in (omega (arith, h), tt))
    (where_test (nat_lt c 2048) ((192 + c / 64) ∷ next c ∷ []) _ (λ low. let h = ltb-true c 2048 low in (omega (arith, h), (omega arith, tt)))
    (where_test (nat_lt c 65536) ((224 + c / 4096) ∷ next (c / 64) ∷ next c ∷ []) _ (λ low. let h = ltb-true c 65536 low in (omega (arith, h), (omega arith, (omega arith, tt))))
    (omega (arith, small), (omega arith, (omega arith, (omega arith, tt))))))

both : (xs ys : List ℕ) → AreBytes xs → AreBytes ys → AreBytes (xs ++ ys)
both [] ys one two = two
both (x ∷ xs) ys one two = (one.0, both xs ys one.1 two)

chars_bytes : (cs : List ℕ) → scalars cs ≡ true → AreBytes (encodes cs)
chars_bytes [] is = tt
chars_bytes (c ∷ cs) is = let parts = and_parts _ _ is in both (encode c) (encodes cs) (char_bytes c parts.0) (chars_bytes cs parts.1)

pub utf8_bytes : (text : List ℕ) → IsUtf8 text → AreBytes text
utf8_bytes text is = subst AreBytes is.1.1 (chars_bytes is.0 is.1.0)
