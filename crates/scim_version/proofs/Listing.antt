-- The grammar of lists against the function that reads them.
use Rattle.std.proofs.Common.{◌≡◌, ◌∙◌, sym, ap, refl, subst, inl, inr, ℕ, ◌<◌, Bool, true, false, not, List, [], ◌∷◌, ◌++◌, length, reverse, ltb, arith}
use Rattle.std.specs.List.{list_all, AllByRecursion}
use Rattle.std.proofs.lemmas.Bool.{cases_Bool, cases_eq, ltb-true, ltb-false, lt-ltb, and_from}
use Rattle.std.proofs.lemmas.List.{append_assoc, append-nil, reverse-append, reverse-reverse, nil_from_length}
use Rattle.std.proofs.lemmas.List.Folds.{list_all-append}
use Rattle.scim_version.specs.Lists.{IsElement, IsListOf, elements, is_blank, kept, parts, trimmed, without_leading_blanks, without_trailing_blanks}
use Rattle.scim_version.specs.Lists.IsListOf.{empty, single, joined}
use Rattle.scim_version.proofs.Parts.{glued, glued-glued, kept-cons, parts-alone, parts-nil, parts-quote, parts-comma, parts-other, parts-inside}
use Rattle.scim_version.proofs.Whole.{Whole, Whole-blanks, Whole-single, Edged-element, list_all-reverse, trimmed-blanks, trimmed-single}

-- a whole text is its only part
parts-whole : (text : List ℕ) → Whole text → parts false text ≡ text ∷ []
parts-whole text whole =
    ap (parts false) (sym (append-nil text)) ∙ whole [] ∙ ap (glued text) (parts-nil false) ∙ ap (λ t. t ∷ []) (append-nil text)

-- and what follows a comma behind it are the next ones
whole-comma : (text right : List ℕ) → Whole text → parts false (text ++ 44 ∷ right) ≡ parts false text ++ parts false right
whole-comma text right whole =
    whole (44 ∷ right) ∙ ap (glued text) (parts-comma right) ∙ ap (λ t. t ∷ parts false right) (append-nil text) ∙ sym (ap (λ p. p ++ parts false right) (parts-whole text whole))

parts-list : {text : List ℕ} {found : List (List ℕ)} → IsListOf text found → (right : List ℕ) → parts false (text ++ 44 ∷ right) ≡ parts false text ++ parts false right
parts-list (empty {blanks} blank) right = whole-comma blanks right (Whole-blanks blanks blank)
parts-list (single before element after b e a) right = whole-comma (before ++ element ++ after) right (Whole-single before element after b e a)
parts-list (joined {left} {right = middle} first rest) right =
    ap (parts false) (append_assoc left (44 ∷ middle) (44 ∷ right)) ∙ parts-list first (middle ++ 44 ∷ right)
    ∙ ap (λ p. parts false left ++ p) (parts-list rest right) ∙ sym (append_assoc (parts false left) (parts false middle) (parts false right))
    ∙ ap (λ p. p ++ parts false right) (sym (parts-list first middle))

kept-nil : kept [] ≡ []
unfolding kept
kept-nil = refl

kept-append : (xs ys : List (List ℕ)) → kept (xs ++ ys) ≡ kept xs ++ kept ys
kept-append [] ys = ap (λ k. k ++ kept ys) (sym kept-nil)
kept-append (x ∷ xs) ys =
    kept-cons x (xs ++ ys) ∙ ap (λ k. kept (x ∷ []) ++ k) (kept-append xs ys) ∙ sym (append_assoc (kept (x ∷ [])) (kept xs) (kept ys)) ∙ ap (λ k. k ++ kept ys) (sym (kept-cons x xs))

kept-some : (part : List ℕ) → 0 < length (trimmed part) → kept (part ∷ []) ≡ trimmed part ∷ []
unfolding kept
kept-some part some = rw (lt-ltb _ _ some) refl

kept-none : (part : List ℕ) → trimmed part ≡ [] → kept (part ∷ []) ≡ []
unfolding kept
kept-none part none = rw none refl

-- What the grammar lists is read.
pub elements-list : {text : List ℕ} {found : List (List ℕ)} → IsListOf text found → elements text ≡ found
unfolding elements
elements-list (empty {blanks} blank) =
    ap kept (parts-whole blanks (Whole-blanks blanks blank)) ∙ kept-none blanks (trimmed-blanks blanks blank)
elements-list (single before element after b e a) =
    let edged = Edged-element element e in
    let is = trimmed-single before element after b edged a in
    ap kept (parts-whole (before ++ element ++ after) (Whole-single before element after b e a))
    ∙ kept-some (before ++ element ++ after) (rw is edged.some) ∙ ap (λ t. t ∷ []) is
elements-list (joined {left} {right} {first} {rest} l r) =
    ap kept (parts-list l right) ∙ kept-append (parts false left) (parts false right) ∙ ap (λ k. k ++ kept (parts false right)) (elements-list l) ∙ ap (λ k. first ++ k) (elements-list r)

-- Blanks around the rest of a part.
leading_split : (text : List ℕ) → (before : List ℕ) × (list_all is_blank before ≡ true) × (text ≡ before ++ without_leading_blanks text)
unfolding without_leading_blanks
leading_split [] = ([], refl, refl)
leading_split (b ∷ bs) =
    elim (cases_Bool (is_blank b)) [
      | inl blank ↦ let p = leading_split bs in (b ∷ p.0, and_from _ _ blank p.1, rw blank (ap (λ t. b ∷ t) p.2))
      | inr other ↦ ([], refl, rw other refl)
    ]

trailing_split : (text : List ℕ) → (after : List ℕ) × (list_all is_blank after ≡ true) × (text ≡ without_trailing_blanks text ++ after)
unfolding without_trailing_blanks
trailing_split text =
    let p = leading_split (reverse text) in
    (reverse p.0, list_all-reverse is_blank p.0 p.1, sym (reverse-reverse text) ∙ ap reverse p.2 ∙ reverse-append p.0 (without_leading_blanks (reverse text)))

trimmed_split : (text : List ℕ) → (before : List ℕ) × (after : List ℕ) × (list_all is_blank before ≡ true) × (list_all is_blank after ≡ true) × (text ≡ before ++ trimmed text ++ after)
unfolding trimmed
trimmed_split text =
    let p = leading_split text in
    let q = trailing_split (without_leading_blanks text) in
    (p.0, q.0, p.1, q.1, p.2 ∙ ap (λ t. p.0 ++ t) q.2 ∙ sym (append_assoc p.0 (without_trailing_blanks (without_leading_blanks text)) q.0))

-- a part that is a list of what is kept of it
abbrev Fine : List ℕ → Type 0
Fine part = IsListOf part (kept (part ∷ []))

Fine-from_kept : (part : List ℕ) → AllByRecursion IsElement (kept (part ∷ [])) → Fine part
Fine-from_kept part h =
    let p = trimmed_split part in
    elim (cases_Bool (ltb 0 (length (trimmed part)))) [
      | inl some ↦
          let is = kept-some part (ltb-true _ _ some) in
          let P : List ℕ → Type 0 = λ t. IsListOf t (trimmed part ∷ []) in
          let Q : List (List ℕ) → Type 0 = λ k. AllByRecursion IsElement k in
          let R : List (List ℕ) → Type 0 = λ k. IsListOf part k in
          subst R (sym is) (subst P (sym p.4) (single p.0 (trimmed part) p.1 p.2 (subst Q is h).0 p.3))
      | inr none ↦
          let nil : trimmed part ≡ [] = nil_from_length (trimmed part) (omega (arith, ltb-false _ _ none)) in
          let P : List ℕ → Type 0 = λ t. p.0 ++ t ++ p.1 ≡ part in
          let blanks : part ≡ p.0 ++ p.1 = p.4 ∙ ap (λ t. p.0 ++ t ++ p.1) nil ∙ ap (λ t. t ++ p.1) (append-nil p.0) in
          let blank : list_all is_blank part ≡ true = rw blanks (list_all-append is_blank p.0 p.1 ∙ and_from _ _ p.2 p.3) in
          let R : List (List ℕ) → Type 0 = λ k. IsListOf part k in
          subst R (sym (kept-none part nil)) (empty blank)
    ]

all_first : (xs ys : List (List ℕ)) → AllByRecursion IsElement (xs ++ ys) → AllByRecursion IsElement xs
all_first [] ys h = tt
all_first (x ∷ xs) ys h = (h.0, all_first xs ys h.1)

all_rest : (xs ys : List (List ℕ)) → AllByRecursion IsElement (xs ++ ys) → AllByRecursion IsElement ys
all_rest [] ys h = h
all_rest (x ∷ xs) ys h = all_rest xs ys h.1

all_fine : (found : List (List ℕ)) → AllByRecursion IsElement (kept found) → AllByRecursion Fine found
all_fine [] h = tt
all_fine (part ∷ more) h =
    let Q : List (List ℕ) → Type 0 = λ k. AllByRecursion IsElement k in
    let both = subst Q (kept-cons part more) h in
    (Fine-from_kept part (all_first (kept (part ∷ [])) (kept more) both), all_fine more (all_rest (kept (part ∷ [])) (kept more) both))

-- if all parts of a text are valid, they are a list of what is kept of them
abbrev Listed : List ℕ → List (List ℕ) → Type 0
Listed text found = AllByRecursion Fine found → IsListOf text (kept found)

Listed-inner : (front : List ℕ) (b : ℕ) (bs : List ℕ) (now after : List (List ℕ)) → now ≡ glued (b ∷ []) after → Listed ((front ++ b ∷ []) ++ bs) (glued (front ++ b ∷ []) after) → Listed (front ++ b ∷ bs) (glued front now)
Listed-inner front b bs now after step rest =
    let P : List (List ℕ) → Type 0 = λ found. Listed (front ++ b ∷ bs) found in
    let T : List ℕ → Type 0 = λ t. Listed t (glued (front ++ b ∷ []) after) in
    subst P (sym (ap (glued front) step ∙ glued-glued front (b ∷ []) after)) (subst T (append_assoc front (b ∷ []) bs) rest)

Listed-comma : (front bs : List ℕ) → Listed bs (glued [] (parts false bs)) → Listed (front ++ 44 ∷ bs) (glued front ([] ∷ parts false bs))
Listed-comma front bs rest fine =
    let P : List (List ℕ) → Type 0 = λ found. Listed bs found in
    let here : IsListOf (front ++ []) (kept ((front ++ []) ∷ [])) = fine.0 in
    let T : List ℕ → Type 0 = λ t. IsListOf t (kept (t ∷ [])) in
    let first : IsListOf front (kept (front ∷ [])) = subst T (append-nil front) here in
    let next : IsListOf bs (kept (parts false bs)) = subst P (parts-alone false bs) rest fine.1 in
    let R : List (List ℕ) → Type 0 = λ k. IsListOf (front ++ 44 ∷ bs) k in
    subst R (sym (ap (λ t. kept (t ∷ parts false bs)) (append-nil front) ∙ kept-cons front (parts false bs))) (joined first next)

Listed-parts : (bs : List ℕ) (quoted : Bool) (front : List ℕ) → Listed (front ++ bs) (glued front (parts quoted bs))
Listed-parts [] quoted front =
    let P : List (List ℕ) → Type 0 = λ found. Listed (front ++ []) (glued front found) in
    subst P (sym (parts-nil quoted)) (λ fine. fine.0)
Listed-parts (b ∷ bs) quoted front =
    elim (cases_eq b 34) [
      | inl quote ↦
          let step : parts quoted (b ∷ bs) ≡ glued (b ∷ []) (parts (not quoted) bs) = rw quote (parts-quote quoted bs) in
          Listed-inner front b bs _ _ step (Listed-parts bs (not quoted) (front ++ b ∷ []))
      | inr other ↦ elim (cases_eq b 44) [
        | inl comma ↦ elim (cases_Bool quoted) [
          | inl within ↦
              let step : parts quoted (b ∷ bs) ≡ glued (b ∷ []) (parts quoted bs) = rw within (parts-inside b bs other) in
              Listed-inner front b bs _ _ step (Listed-parts bs quoted (front ++ b ∷ []))
          | inr outside ↦
              let step : parts quoted (b ∷ bs) ≡ [] ∷ parts false bs = rw (outside, comma) (parts-comma bs) in
              let P : List (List ℕ) → Type 0 = λ found. Listed (front ++ b ∷ bs) (glued front found) in
              let T : ℕ → Type 0 = λ c. Listed (front ++ c ∷ bs) (glued front ([] ∷ parts false bs)) in
              subst P (sym step) (subst T (sym comma) (Listed-comma front bs (Listed-parts bs false [])))
        ]
        | inr inner ↦
            let step : parts quoted (b ∷ bs) ≡ glued (b ∷ []) (parts quoted bs) = parts-other quoted b bs other inner in
            Listed-inner front b bs _ _ step (Listed-parts bs quoted (front ++ b ∷ []))
      ]
    ]

-- What is read is listed by the grammar.
pub IsListOf-elements : (text : List ℕ) → AllByRecursion IsElement (elements text) → IsListOf text (elements text)
unfolding elements
IsListOf-elements text h =
    let P : List (List ℕ) → Type 0 = λ found. Listed text found in
    subst P (parts-alone false text) (Listed-parts text false []) (all_fine (parts false text) h)
