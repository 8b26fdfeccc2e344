-- The conditions that texts spell.
use Rattle.std.proofs.Common.{◌≡◌, ◌∙◌, sym, ap, refl, subst, inl, inr, ℕ, ◌<◌, true, false, List, [], ◌∷◌, length, Result, Ok, Err, eqb, arith}
use Rattle.std.specs.Prelude.{codes, IfOk}
use Rattle.std.specs.List.{list_all, AllByRecursion}
use Rattle.std.proofs.lemmas.Bool.{false≢true, cases_Bool, and_parts, and_from, eqb-false, ne_eqb}
use Rattle.std.proofs.lemmas.Slice.Eq.{bytes_eq-Decides}
use Rattle.std.proofs.lemmas.List.{append-nil}
use Rattle.scim_key.specs.Outcome.{Gives}
use Rattle.scim_version.specs.declared.tags.TagFault.{TagFault}
use Rattle.scim_version.specs.declared.tags.TagFault.TheVariants.{Memory}
use Rattle.scim_version.specs.declared.conditions.Condition.{Condition}
use Rattle.scim_version.specs.declared.conditions.Condition.TheVariants.{Always, AnyTag, Tags}
use Rattle.scim_version.specs.Tags.{IsEntityTag, is_entity_tag}
use Rattle.scim_version.specs.Lists.{IsElement, IsListOf, elements}
use Rattle.scim_version.specs.Lists.IsListOf.{single}
use Rattle.scim_version.specs.Conditions.{Spells, condition_from, condition_of, is_star, tags_from}
use Rattle.scim_version.proofs.Grammar.{IsEntityTag-from_test, test-from_IsEntityTag}
use Rattle.scim_version.proofs.Listing.{elements-list, IsListOf-elements}

tags-from_tests : (found : List (List ℕ)) → list_all is_entity_tag found ≡ true → AllByRecursion IsEntityTag found
tags-from_tests [] h = tt
tags-from_tests (tag ∷ more) h =
    let p = and_parts (is_entity_tag tag) (list_all is_entity_tag more) h in
    (IsEntityTag-from_test tag p.0, tags-from_tests more p.1)

tests-from_tags : (found : List (List ℕ)) → AllByRecursion IsEntityTag found → list_all is_entity_tag found ≡ true
tests-from_tags [] h = refl
tests-from_tags (tag ∷ more) h = and_from _ _ (test-from_IsEntityTag tag h.0) (tests-from_tags more h.1)

elements-from_tags : (found : List (List ℕ)) → AllByRecursion IsEntityTag found → AllByRecursion IsElement found
elements-from_tags [] h = tt
elements-from_tags (tag ∷ more) h = (inr h.0, elements-from_tags more h.1)

star_from : (found : List (List ℕ)) → is_star found ≡ true → found ≡ codes "*" ∷ []
unfolding is_star
star_from [] h = absurd (false≢true h)
star_from (element ∷ []) h = ap (λ e. e ∷ []) ((bytes_eq-Decides element (codes "*")).0 h)
star_from (element ∷ other ∷ more) h = absurd (false≢true h)

-- a tag is no star
no_star : (found : List (List ℕ)) → AllByRecursion IsEntityTag found → is_star found ≡ false
unfolding is_star
no_star [] h = refl
no_star (tag ∷ []) h =
    elim (h.0.2) [
      | inl strong ↦ rw strong refl
      | inr weak ↦ rw weak refl
    ]
no_star (tag ∷ other ∷ more) h = refl

-- what the elements of a text must be for the condition that they say
abbrev Said : List (List ℕ) → Condition → Type 0
Said found Always = ⊥
Said found AnyTag = found ≡ codes "*" ∷ []
Said found (Tags tags) = (found ≡ tags) × (0 < length tags) × AllByRecursion IsEntityTag tags

said_from : (found : List (List ℕ)) (condition : Condition) → condition_from found ≡ Ok condition → Said found condition
unfolding condition_from tags_from
said_from found condition h =
    let P : Condition → Type 0 = λ c. Said found c in
    elim (cases_Bool (eqb (length found) 0)) [
      | inl none ↦ let e = rw none at h in cc
      | inr some ↦ elim (cases_Bool (is_star found)) [
        | inl star ↦ let e = rw (some, star) at h in let is : AnyTag ≡ condition = cc in subst P is (star_from found star)
        | inr other ↦ elim (cases_Bool (list_all is_entity_tag found)) [
          | inl tags ↦
              let e = rw (some, other, tags) at h in
              let is : Tags found ≡ condition = cc in
              let filled : 0 < length found = (let differs = eqb-false (length found) 0 some in omega arith) in
              subst P is (refl, filled, tags-from_tests found tags)
          | inr malformed ↦ let e = rw (some, other, malformed) at h in cc
        ]
      ]
    ]

spelled_from : (text : List ℕ) (condition : Condition) → Said (elements text) condition → Spells text condition
spelled_from text Always h = h
spelled_from text AnyTag h =
    let P : List (List ℕ) → Type 0 = λ found. IsListOf text found in
    let Q : List (List ℕ) → Type 0 = λ found. AllByRecursion IsElement found in
    subst P h (IsListOf-elements text (subst Q (sym h) (inl refl, tt)))
spelled_from text (Tags tags) h =
    let P : List (List ℕ) → Type 0 = λ found. IsListOf text found in
    let Q : List (List ℕ) → Type 0 = λ found. AllByRecursion IsElement found in
    (subst P h.0 (IsListOf-elements text (subst Q (sym h.0) (elements-from_tags tags h.2))), h.1, h.2)

-- The function and the grammar agree: each text spells what the function reads, and the other way round.
pub Spells-from_condition : (text : List ℕ) (condition : Condition) → condition_of text ≡ Ok condition → Spells text condition
unfolding condition_of
Spells-from_condition text condition h = spelled_from text condition (said_from (elements text) condition h)

condition_from-tags : (tags : List (List ℕ)) → 0 < length tags → AllByRecursion IsEntityTag tags → condition_from tags ≡ Ok (Tags tags)
unfolding condition_from tags_from
condition_from-tags tags some h = rw (ne_eqb (length tags) 0 (omega arith), no_star tags h, tests-from_tags tags h) refl

pub condition-from_Spells : (text : List ℕ) (condition : Condition) → Spells text condition → condition_of text ≡ Ok condition
unfolding condition_of condition_from is_star
condition-from_Spells text Always h = absurd h
condition-from_Spells text AnyTag h = ap condition_from (elements-list h)
condition-from_Spells text (Tags tags) h = ap condition_from (elements-list h.0) ∙ condition_from-tags tags h.1 h.2

pub Spells-alone : (text : List ℕ) (c d : Condition) → Spells text c → Spells text d → c ≡ d
Spells-alone text c d first second =
    let e : ◌≡◌ {A = Result Condition TagFault} (Ok c) (Ok d) = sym (condition-from_Spells text c first) ∙ condition-from_Spells text d second in cc

-- only one tag
pub Spells-tag : (tag : List ℕ) → IsEntityTag tag → Spells tag (Tags (tag ∷ []))
Spells-tag tag h =
    let P : List ℕ → Type 0 = λ text. IsListOf text (tag ∷ []) in
    (subst P (append-nil tag) (single [] tag [] refl (inr h) refl), omega arith, (h, tt))

-- the clauses of a reader that gives what the function says
pub found_by : (result : Result Condition TagFault) (text : List ℕ) → Gives Memory result (condition_of text) → IfOk result (λ condition. Spells text condition)
found_by (Ok condition) text h = Spells-from_condition text condition h
found_by (Err fault) text h = tt

pub only_by : (result : Result Condition TagFault) (text : List ℕ) → Gives Memory result (condition_of text) → (condition : Condition) → Spells text condition → Gives Memory result (Ok condition)
only_by result text h condition spelled =
    let P : Result Condition TagFault → Type 0 = λ answer. Gives Memory result answer in
    subst P (condition-from_Spells text condition spelled) h
