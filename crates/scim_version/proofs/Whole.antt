-- Texts that no comma divides, and these texts without the blanks around them.
use Rattle.std.proofs.Common.{◌≡◌, ◌≢◌, ◌∙◌, sym, ap, refl, subst, inl, inr, ℕ, ◌-◌, ◌<◌, Bool, true, false, List, [], ◌∷◌, ◌++◌, length, get_or, reverse, arith, length-append}
use Rattle.std.specs.List.{list_all}
use Rattle.std.proofs.lemmas.Bool.{false≢true, and_parts, and_from, or_cases, eqb-true}
use Rattle.std.proofs.lemmas.List.{append_assoc, append-nil, reverse-append, get_or_append_left, get_or_at}
use Rattle.std.proofs.lemmas.List.Folds.{list_all-append}
use Rattle.scim_version.specs.Tags.{IsEntityTag, is_tag_byte, quoted}
use Rattle.scim_version.specs.Lists.{IsElement, is_blank, parts, trimmed, without_leading_blanks, without_trailing_blanks}
use Rattle.scim_version.proofs.Grammar.{last-quoted}
use Rattle.scim_version.proofs.Blanks.{leading-other, trailing-other}
use Rattle.scim_version.proofs.Parts.{glued, glued-glued, parts-alone, parts-quote, parts-other, parts-inside}

-- a text that belongs whole to the first part, whatever follows
abbrev pub Whole : List ℕ → Type 0
Whole text = (rest : List ℕ) → parts false (text ++ rest) ≡ glued text (parts false rest)

Whole-nil : Whole []
Whole-nil rest = sym (parts-alone false rest)

Whole-append : (a b : List ℕ) → Whole a → Whole b → Whole (a ++ b)
Whole-append a b first second rest =
    ap (parts false) (append_assoc a b rest) ∙ first (b ++ rest) ∙ ap (glued a) (second rest) ∙ glued-glued a b (parts false rest)

Whole-byte : (b : ℕ) → b ≢ 34 → b ≢ 44 → Whole (b ∷ [])
Whole-byte b quote comma rest = parts-other false b rest quote comma

blank_is : (b : ℕ) → is_blank b ≡ true → (b ≢ 34) × (b ≢ 44)
blank_is b h =
    elim (or_cases _ _ h) [
      | inl space ↦ let e = eqb-true b 32 space in (λ q. absurd (omega arith), λ q. absurd (omega arith))
      | inr tab ↦ let e = eqb-true b 9 tab in (λ q. absurd (omega arith), λ q. absurd (omega arith))
    ]

pub Whole-blanks : (bs : List ℕ) → list_all is_blank bs ≡ true → Whole bs
Whole-blanks [] h = Whole-nil
Whole-blanks (b ∷ bs) h =
    let p = and_parts (is_blank b) (list_all is_blank bs) h in
    let other = blank_is b p.0 in
    Whole-append (b ∷ []) bs (Whole-byte b other.0 other.1) (Whole-blanks bs p.1)

tag_byte_is : (b : ℕ) → is_tag_byte b ≡ true → b ≢ 34
tag_byte_is b h quote = let P : ℕ → Type 0 = λ x. is_tag_byte x ≡ true in false≢true (subst P quote h)

-- tag bytes within quotes
inside : (opaque : List ℕ) → list_all is_tag_byte opaque ≡ true → (rest : List ℕ) → parts true (opaque ++ rest) ≡ glued opaque (parts true rest)
inside [] h rest = sym (parts-alone true rest)
inside (b ∷ bs) h rest =
    let p = and_parts (is_tag_byte b) (list_all is_tag_byte bs) h in
    parts-inside b (bs ++ rest) (tag_byte_is b p.0) ∙ ap (glued (b ∷ [])) (inside bs p.1 rest) ∙ glued-glued (b ∷ []) bs (parts true rest)

Whole-quoted : (opaque : List ℕ) → list_all is_tag_byte opaque ≡ true → Whole (quoted opaque)
Whole-quoted opaque h rest =
    parts-quote false ((opaque ++ 34 ∷ []) ++ rest) ∙ ap (λ t. glued (34 ∷ []) (parts true t)) (append_assoc opaque (34 ∷ []) rest)
    ∙ ap (glued (34 ∷ [])) (inside opaque h (34 ∷ rest) ∙ ap (glued opaque) (parts-quote true rest))
    ∙ glued-glued (34 ∷ []) opaque (glued (34 ∷ []) (parts false rest)) ∙ glued-glued (34 ∷ opaque) (34 ∷ []) (parts false rest)

Whole-tag : (tag : List ℕ) → IsEntityTag tag → Whole tag
Whole-tag tag h =
    elim (h.2) [
      | inl strong ↦ subst Whole (sym strong) (Whole-quoted h.0 h.1)
      | inr weak ↦ subst Whole (sym weak) (Whole-append (87 ∷ []) (47 ∷ quoted h.0) (Whole-byte 87 (omega arith) (omega arith)) (Whole-append (47 ∷ []) (quoted h.0) (Whole-byte 47 (omega arith) (omega arith)) (Whole-quoted h.0 h.1)))
    ]

pub Whole-element : (element : List ℕ) → IsElement element → Whole element
Whole-element element h =
    elim h [
      | inl star ↦ subst Whole (sym star) (Whole-byte 42 (omega arith) (omega arith))
      | inr tag ↦ Whole-tag element tag
    ]

pub Whole-single : (before element after : List ℕ) → list_all is_blank before ≡ true → IsElement element → list_all is_blank after ≡ true → Whole (before ++ element ++ after)
Whole-single before element after b e a =
    Whole-append (before ++ element) after (Whole-append before element (Whole-blanks before b) (Whole-element element e)) (Whole-blanks after a)

-- Blanks before and behind.
pub list_all-reverse : (test : ℕ → Bool) (xs : List ℕ) → list_all test xs ≡ true → list_all test (reverse xs) ≡ true
list_all-reverse test [] h = refl
list_all-reverse test (x ∷ xs) h =
    let p = and_parts (test x) (list_all test xs) h in
    ap (list_all test) (reverse-append (x ∷ []) xs) ∙ list_all-append test (reverse xs) (x ∷ []) ∙ and_from _ _ (list_all-reverse test xs p.1) (and_from _ _ p.0 refl)

leading-append : (before text : List ℕ) → list_all is_blank before ≡ true → without_leading_blanks (before ++ text) ≡ without_leading_blanks text
unfolding without_leading_blanks
leading-append [] text h = refl
leading-append (b ∷ before) text h =
    let p = and_parts (is_blank b) (list_all is_blank before) h in
    rw p.0 (leading-append before text p.1)

trailing-append : (text after : List ℕ) → list_all is_blank after ≡ true → without_trailing_blanks (text ++ after) ≡ without_trailing_blanks text
unfolding without_trailing_blanks
trailing-append text after h =
    ap (λ r. reverse (without_leading_blanks r)) (reverse-append text after) ∙ ap reverse (leading-append (reverse after) (reverse text) (list_all-reverse is_blank after h))

-- a text that neither begins nor ends with a blank
pub record Edged (text : List ℕ) : Type 0 where
  pub some : 0 < length text
  pub first : is_blank (get_or text 0 0) ≡ false
  pub last : is_blank (get_or text (length text - 1) 0) ≡ false

Edged-quoted : (opaque : List ℕ) → Edged (quoted opaque)
Edged-quoted opaque = record { some = omega arith; first = refl; last = rw (last-quoted opaque) refl }

Edged-weak : (opaque : List ℕ) → Edged (87 ∷ 47 ∷ quoted opaque)
Edged-weak opaque =
    let last : get_or (87 ∷ 47 ∷ quoted opaque) (length (87 ∷ 47 ∷ quoted opaque) - 1) 0 ≡ 34 =
    get_or_at (87 ∷ 47 ∷ 34 ∷ opaque) 34 [] 0 _ (omega (arith, length-append opaque (34 ∷ []))) in
    record { some = omega arith; first = refl; last = rw last refl }

pub Edged-element : (element : List ℕ) → IsElement element → Edged element
Edged-element element h =
    elim h [
      | inl star ↦ subst Edged (sym star) (record { some = omega arith; first = refl; last = refl })
      | inr tag ↦ elim (tag.2) [
        | inl strong ↦ subst Edged (sym strong) (Edged-quoted tag.0)
        | inr weak ↦ subst Edged (sym weak) (Edged-weak tag.0)
      ]
    ]

pub trimmed-blanks : (blanks : List ℕ) → list_all is_blank blanks ≡ true → trimmed blanks ≡ []
unfolding trimmed without_leading_blanks without_trailing_blanks
trimmed-blanks blanks h =
    ap without_trailing_blanks (ap without_leading_blanks (sym (append-nil blanks)) ∙ leading-append blanks [] h)

pub trimmed-single : (before element after : List ℕ) → list_all is_blank before ≡ true → Edged element → list_all is_blank after ≡ true → trimmed (before ++ element ++ after) ≡ element
unfolding trimmed
trimmed-single before element after b e a =
    let first : get_or (element ++ after) 0 0 ≡ get_or element 0 0 = get_or_append_left element after 0 0 e.some in
    let leading : element ++ after ≡ without_leading_blanks (element ++ after) =
    leading-other (element ++ after) (omega (arith, length-append element after, e.some)) (rw first e.first) in
    ap without_trailing_blanks (ap without_leading_blanks (append_assoc before element after) ∙ leading-append before (element ++ after) b ∙ sym leading)
    ∙ trailing-append element after a ∙ sym (trailing-other element (omega (arith, e.some)) e.last)
