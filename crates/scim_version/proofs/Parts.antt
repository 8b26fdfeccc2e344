-- The parts of a comma list, from one byte to the next.
use Rattle.std.proofs.Common.{◌≡◌, ◌≢◌, ◌∙◌, sym, ap, refl, inl, inr, ℕ, ◌+◌, ◌-◌, ◌<◌, ◌≤◌, Bool, true, false, not, List, [], ◌∷◌, ◌++◌, length, get_or, take, drop, eqb, ltb, ◌&&◌, arith}
use Rattle.std.proofs.lemmas.Bool.{ne_eqb, cases_Bool}
use Rattle.std.proofs.lemmas.List.{append_assoc, append-nil, drop_more, drop_all}
use Rattle.std.proofs.lemmas.List.Edits.{between_more}
use Rattle.scim_version.specs.Lists.{put_first, parts, kept, elements, trimmed}

-- a text in front of the first part
abbrev pub glued : List ℕ → List (List ℕ) → List (List ℕ)
glued front [] = front ∷ []
glued front (part ∷ more) = (front ++ part) ∷ more

put_first-glued : (b : ℕ) (found : List (List ℕ)) → put_first b found ≡ glued (b ∷ []) found
put_first-glued b [] = refl
put_first-glued b (part ∷ more) = refl

pub glued-glued : (front text : List ℕ) (found : List (List ℕ)) → glued front (glued text found) ≡ glued (front ++ text) found
glued-glued front text [] = refl
glued-glued front text (part ∷ more) = ap (λ r. r ∷ more) (sym (append_assoc front text part))

and_false : (b : Bool) → (b && false) ≡ false
and_false true = refl
and_false false = refl

-- a double quote, a comma outside quotes, and any other byte
pub parts-quote : (quoted : Bool) (bs : List ℕ) → parts quoted (34 ∷ bs) ≡ glued (34 ∷ []) (parts (not quoted) bs)
unfolding parts
parts-quote quoted bs = put_first-glued 34 (parts (not quoted) bs)

pub parts-comma : (bs : List ℕ) → parts false (44 ∷ bs) ≡ [] ∷ parts false bs
unfolding parts
parts-comma bs = refl

pub parts-other : (quoted : Bool) (b : ℕ) (bs : List ℕ) → b ≢ 34 → b ≢ 44 → parts quoted (b ∷ bs) ≡ glued (b ∷ []) (parts quoted bs)
unfolding parts
parts-other quoted b bs quote comma = rw (ne_eqb b 34 quote, ne_eqb b 44 comma) (put_first-glued b (parts quoted bs))

pub parts-inside : (b : ℕ) (bs : List ℕ) → b ≢ 34 → parts true (b ∷ bs) ≡ glued (b ∷ []) (parts true bs)
unfolding parts
parts-inside b bs quote = rw (ne_eqb b 34 quote, and_false (eqb b 44)) (put_first-glued b (parts true bs))

pub parts-nil : (quoted : Bool) → parts quoted [] ≡ [] ∷ []
unfolding parts
parts-nil quoted = refl

put_first-alone : (b : ℕ) (found : List (List ℕ)) → glued [] (put_first b found) ≡ put_first b found
put_first-alone b [] = refl
put_first-alone b (part ∷ more) = refl

-- there is always a first part
pub parts-alone : (quoted : Bool) (bs : List ℕ) → glued [] (parts quoted bs) ≡ parts quoted bs
unfolding parts
parts-alone quoted [] = refl
parts-alone quoted (b ∷ bs) =
    elim (cases_Bool (eqb b 34)) [
      | inl quote ↦ rw quote (put_first-alone b (parts (not quoted) bs))
      | inr other ↦ elim (cases_Bool (eqb b 44 && not quoted)) [
        | inl comma ↦ rw (other, comma) refl
        | inr inner ↦ rw (other, inner) (put_first-alone b (parts quoted bs))
      ]
    ]

-- what is kept of one part and more
pub kept-cons : (part : List ℕ) (more : List (List ℕ)) → kept (part ∷ more) ≡ kept (part ∷ []) ++ kept more
unfolding kept
kept-cons part more =
    elim (cases_Bool (ltb 0 (length (trimmed part)))) [
      | inl some ↦ rw some refl
      | inr none ↦ rw none refl
    ]

-- the elements found so far, and those of the part from start on and of the text from i on
abbrev pub unread : List (List ℕ) → List ℕ → ℕ → Bool → ℕ → List (List ℕ)
unread found text start quoted i = found ++ kept (glued (take (i - start) (drop start text)) (parts quoted (drop i text)))

pub unread-start : (text : List ℕ) → unread [] text 0 false 0 ≡ elements text
unfolding elements
unread-start text = ap kept (parts-alone false text)

-- the part that has begun, one byte on
begun_more : (text : List ℕ) (start i : ℕ) → start ≤ i → i < length text → take (i + 1 - start) (drop start text) ≡ take (i - start) (drop start text) ++ get_or text i 0 ∷ []
begun_more text start i begun inside = between_more text start i 0 begun inside

-- a byte that belongs to the part that has begun
inner_more : (found : List (List ℕ)) (text : List ℕ) (start i : ℕ) (quoted after : Bool) → start ≤ i → i < length text
    → parts quoted (get_or text i 0 ∷ drop (i + 1) text) ≡ glued (get_or text i 0 ∷ []) (parts after (drop (i + 1) text))
    → unread found text start after (i + 1) ≡ unread found text start quoted i
inner_more found text start i quoted after begun inside step =
    let front = take (i - start) (drop start text) in
    let rest = parts after (drop (i + 1) text) in
    let all : glued (take (i + 1 - start) (drop start text)) rest ≡ glued front (parts quoted (drop i text)) =
    ap (λ f. glued f rest) (begun_more text start i begun inside) ∙ sym (glued-glued front (get_or text i 0 ∷ []) rest)
    ∙ ap (glued front) (sym step ∙ ap (parts quoted) (sym (drop_more text i 0 inside))) in
    ap (λ r. found ++ kept r) all

pub unread-quote : (found : List (List ℕ)) (text : List ℕ) (start i : ℕ) (quoted : Bool) → start ≤ i → i < length text → get_or text i 0 ≡ 34 → unread found text start (not quoted) (i + 1) ≡ unread found text start quoted i
unread-quote found text start i quoted begun inside quote =
    inner_more found text start i quoted (not quoted) begun inside (rw quote (parts-quote quoted (drop (i + 1) text)))

pub unread-other : (found : List (List ℕ)) (text : List ℕ) (start i : ℕ) (quoted : Bool) → start ≤ i → i < length text → get_or text i 0 ≢ 34 → get_or text i 0 ≢ 44 → unread found text start quoted (i + 1) ≡ unread found text start quoted i
unread-other found text start i quoted begun inside quote comma =
    inner_more found text start i quoted quoted begun inside (parts-other quoted _ (drop (i + 1) text) quote comma)

pub unread-inside : (found : List (List ℕ)) (text : List ℕ) (start i : ℕ) (quoted : Bool) → start ≤ i → i < length text → get_or text i 0 ≢ 34 → quoted ≡ true → unread found text start quoted (i + 1) ≡ unread found text start quoted i
unread-inside found text start i quoted begun inside quote within =
    rw within (inner_more found text start i true true begun inside (parts-inside _ (drop (i + 1) text) quote))

-- a comma outside quotes ends the part
pub unread-comma : (found : List (List ℕ)) (text : List ℕ) (start i : ℕ) (quoted : Bool) → i < length text → get_or text i 0 ≡ 44 → quoted ≡ false → unread (found ++ kept (take (i - start) (drop start text) ∷ [])) text (i + 1) quoted (i + 1) ≡ unread found text start quoted i
unread-comma found text start i quoted inside comma outside =
    let front = take (i - start) (drop start text) in
    let rest = parts false (drop (i + 1) text) in
    let none : i + 1 - (i + 1) ≡ 0 = omega arith in
    let here : parts false (drop i text) ≡ [] ∷ rest = ap (parts false) (drop_more text i 0 inside) ∙ (rw comma (parts-comma (drop (i + 1) text))) in
    rw (outside, none)
    (ap (λ r. (found ++ kept (front ∷ [])) ++ kept r) (parts-alone false (drop (i + 1) text)) ∙ append_assoc found (kept (front ∷ [])) (kept rest)
    ∙ ap (λ r. found ++ r) (sym (kept-cons front rest) ∙ ap (λ f. kept (f ∷ rest)) (sym (append-nil front)) ∙ ap (λ p. kept (glued front p)) (sym here)))

pub unread-end : (found : List (List ℕ)) (text : List ℕ) (start i : ℕ) (quoted : Bool) → i ≡ length text → found ++ kept (take (length text - start) (drop start text) ∷ []) ≡ unread found text start quoted i
unread-end found text start i quoted end =
    let front = take (length text - start) (drop start text) in
    let none : drop (length text) text ≡ [] = drop_all (length text) text (omega arith) in
    rw (end, none, parts-nil quoted) (ap (λ f. found ++ kept (f ∷ [])) (sym (append-nil front)))
