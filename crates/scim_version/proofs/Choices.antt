-- What the elements of a list say.
use Rattle.std.proofs.Common.{◌≡◌, refl, inl, inr, ℕ, ◌<◌, false, List, [], length, map, get_or, Some, Err, Bor, arith}
use Rattle.std.specs.List.{list_all}
use Rattle.std.proofs.lemmas.Bool.{cases_Bool}
use Rattle.std.proofs.lemmas.List.{get_or-map, length-map}
use Rattle.std.proofs.lemmas.List.Folds.{list_all_at}
use Rattle.scim_version.specs.declared.tags.TagFault.{TagFault}
use Rattle.scim_version.specs.declared.tags.TagFault.TheVariants.{Malformed}
use Rattle.scim_version.specs.Tags.{is_entity_tag, tag_fault}
use Rattle.scim_version.specs.Conditions.{tags_from}

tag_fault_is : (text : List ℕ) (fault : TagFault) → tag_fault text ≡ Some fault → (is_entity_tag text ≡ false) × (fault ≡ Malformed)
unfolding tag_fault
tag_fault_is text fault h =
    elim (cases_Bool (is_entity_tag text)) [
      | inl lawful ↦ let e = rw lawful at h in cc
      | inr other ↦ let e = rw other at h in (other, cc)
    ]

-- one text that is no tag is enough
pub tags_from-fault : (texts : List (Bor (List ℕ))) (i : ℕ) (d : Bor (List ℕ)) (fault : TagFault) → i < length texts → tag_fault (get_or texts i d).now ≡ Some fault
    → tags_from (map (λ e. e.now) texts) ≡ Err fault
unfolding tags_from
tags_from-fault texts i d fault inside h =
    let p = tag_fault_is (get_or texts i d).now fault h in
    let at : get_or (map (λ (e : Bor (List ℕ)). e.now) texts) i [] ≡ (get_or texts i d).now = get_or-map (λ (e : Bor (List ℕ)). e.now) texts i d [] inside in
    let some : list_all is_entity_tag (map (λ (e : Bor (List ℕ)). e.now) texts) ≡ false =
    list_all_at is_entity_tag _ i [] (omega (arith, length-map texts (λ (e : Bor (List ℕ)). e.now))) (rw at p.0) in
    rw (some, p.1) refl
