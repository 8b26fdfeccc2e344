-- Entity tags by the grammar and by the test.
use Rattle.std.proofs.Common.{◌≡◌, ◌∙◌, sym, ap, refl, inl, inr, ℕ, suc, ◌+◌, ◌-◌, ◌<◌, ◌≤◌, ◌^◌, true, leb, List, [], ◌∷◌, ◌++◌, length, get_or, take, drop, arith, length-append}
use Rattle.std.specs.Prelude.{codes}
use Rattle.std.specs.List.{list_all}
use Rattle.std.specs.Fmt.{decimal}
use Rattle.std.proofs.lemmas.Bool.{cases_Bool, and_parts, eqb-true, leb-true, le-leb}
use Rattle.std.proofs.lemmas.Bool.Decides.{Decides-eqb, nat_tests}
use Rattle.std.proofs.lemmas.List.{drop_more, take_at, get_or_at, take-append-drop, drop_all}
use Rattle.std.proofs.lemmas.Fmt.{decimal_by_steps}
use Rattle.std.proofs.lemmas.List.Folds.{list_all-append}
use Rattle.std.proofs.lemmas.Slice.Eq.{starts_is}
use Rattle.scim_version.specs.Tags.{IsEntityTag, is_tag_byte, quoted, is_quoted, is_weak, opaque_tag, is_entity_tag, version_tag}

-- the bytes between the quotes of a quoted text
pub middle-quoted : (opaque : List ℕ) → take (length (quoted opaque) - 2) (drop 1 (quoted opaque)) ≡ opaque
middle-quoted opaque =
    let n : length (quoted opaque) - 2 ≡ length opaque = omega (arith, length-append opaque (34 ∷ [])) in
    rw n (take_at opaque (34 ∷ []) (length opaque) refl)

pub last-quoted : (opaque : List ℕ) → get_or (quoted opaque) (length (quoted opaque) - 1) 0 ≡ 34
last-quoted opaque = get_or_at (34 ∷ opaque) 34 [] 0 _ (omega (arith, length-append opaque (34 ∷ [])))

pub is_quoted-quoted : (opaque : List ℕ) → is_quoted (quoted opaque) ≡ list_all is_tag_byte opaque
unfolding is_quoted
is_quoted-quoted opaque =
    let long : leb 2 (suc (length (opaque ++ 34 ∷ []))) ≡ true = le-leb _ _ (omega (arith, length-append opaque (34 ∷ []))) in
    rw (middle-quoted, last-quoted, long) refl

-- a list that isn't empty is its front and its last element
pub front_and_last : (xs : List ℕ) → 0 < length xs → xs ≡ take (length xs - 1) xs ++ get_or xs (length xs - 1) 0 ∷ []
front_and_last xs some =
    let last : length xs - 1 < length xs = omega arith in
    let end : drop (length xs - 1 + 1) xs ≡ [] = drop_all _ xs (omega arith) in
    sym (take-append-drop (length xs - 1) xs) ∙ ap (λ r. take (length xs - 1) xs ++ r) (drop_more xs (length xs - 1) 0 last ∙ ap (λ r. get_or xs (length xs - 1) 0 ∷ r) end)

-- a text that begins and ends with a quote
pub quoted_from : (text : List ℕ) → 2 ≤ length text → get_or text 0 0 ≡ 34 → get_or text (length text - 1) 0 ≡ 34 → text ≡ quoted (take (length text - 2) (drop 1 text))
quoted_from [] long first last = absurd (omega arith)
quoted_from (c ∷ cs) long first last =
    let n : suc (length cs) - 2 ≡ length cs - 1 = omega arith in
    let m : suc (length cs) - 1 ≡ suc (length cs - 1) = omega arith in
    let at : get_or cs (length cs - 1) 0 ≡ 34 = rw m at last in
    rw n (ap (λ x. x ∷ cs) first ∙ ap (λ r. 34 ∷ r) (front_and_last cs (omega arith) ∙ ap (λ x. take (length cs - 1) cs ++ x ∷ []) at))

pub decimal_is_tag_bytes : (n : ℕ) → n < 2 ^ 64 → list_all is_tag_byte (decimal n) ≡ true
decimal_is_tag_bytes n h =
    decimal_by_steps (λ _ ds. list_all is_tag_byte ds ≡ true)
    (λ n h. grind (arith, nat_tests))
    (λ n ds h k. grind (arith, nat_tests, list_all-append))
    n h

-- what passes the test for quotes
pub is_quoted_from : (text : List ℕ) → is_quoted text ≡ true → (opaque : List ℕ) × (list_all is_tag_byte opaque ≡ true) × (text ≡ quoted opaque)
unfolding is_quoted
is_quoted_from text h =
    let p = and_parts _ _ h in
    let q = and_parts _ _ p.0 in
    let r = and_parts _ _ q.0 in
    (take (length text - 2) (drop 1 text), p.1, quoted_from text (leb-true _ _ r.0) (eqb-true _ _ r.1) (eqb-true _ _ q.1))

-- a weak tag is `W/` and the rest
weak_from : (tag : List ℕ) → is_weak tag ≡ true → tag ≡ codes "W/" ++ drop 2 tag
unfolding is_weak
weak_from tag h = (starts_is Decides-eqb tag (codes "W/") _ refl).0 h

pub weak_is_long : (tag : List ℕ) → is_weak tag ≡ true → 2 ≤ length tag
weak_is_long tag h = let e = ap length (weak_from tag h) in omega arith

-- The test passes the tags of the grammar and nothing else.
pub IsEntityTag-from_test : (tag : List ℕ) → is_entity_tag tag ≡ true → IsEntityTag tag
unfolding is_entity_tag opaque_tag
IsEntityTag-from_test tag h =
    elim (cases_Bool (is_weak tag)) [
      | inl weak ↦ let q = is_quoted_from (drop 2 tag) (rw weak at h) in (q.0, q.1, inr (weak_from tag weak ∙ ap (λ r. codes "W/" ++ r) q.2))
      | inr strong ↦ let q = is_quoted_from tag (rw strong at h) in (q.0, q.1, inl q.2)
    ]

pub test-from_IsEntityTag : (tag : List ℕ) → IsEntityTag tag → is_entity_tag tag ≡ true
unfolding is_entity_tag opaque_tag is_weak
test-from_IsEntityTag tag h =
    elim (h.2) [
      | inl strong ↦ rw strong (is_quoted-quoted h.0 ∙ h.1)
      | inr weak ↦ rw weak (is_quoted-quoted h.0 ∙ h.1)
    ]

pub version_tag_is_entity_tag : (n : ℕ) → n < 2 ^ 64 → is_entity_tag (version_tag n) ≡ true
version_tag_is_entity_tag n h = test-from_IsEntityTag (version_tag n) (decimal n, decimal_is_tag_bytes n h, inl refl)
