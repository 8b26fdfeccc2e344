-- What a Create and a conditional Replace of the record's entry do to the table, whatever it holds.
use Rattle.std.proofs.Common.{◌≡◌, ℕ, zero, suc, ◌-◌, ◌<◌, ◌≤◌, Bool, true, false, cond, ◌&&◌, List, [], ◌∷◌, ◌++◌, length, Option, Some, None, refl, ap, sym, ◌∙◌, arith}
use Rattle.std.proofs.lemmas.Bool.{lt-leb, false_from_ne_true}
use Rattle.std.proofs.lemmas.Option.{slice_get_within}
use Rattle.std.proofs.lemmas.Slice.Eq.{bytes_eq-Decides}
use Rattle.std.specs.List.{find}
use Rattle.std.specs.Prelude.{nat_le}
use Rattle.scim_key.proofs.IdLemmas.{ids_differ}
use Rattle.scim_key.specs.Identifiers.{id_text}
use Rattle.scim_key.specs.declared.records.RecordName.{RecordName}
use Rattle.scim_version.specs.Conditions.{holds_match}
use Rattle.scim_version.specs.Tags.{version_tag}
use Rattle.scim_version.specs.declared.conditions.Condition.TheVariants.{Always, Tags}
use Rattle.scim_resource.specs.Contents.{content_kind, content_name}
use Rattle.scim_resource.specs.Rows.{shown, last_version}
use Rattle.scim_resource.specs.declared.contents.Content.{Content}
use Rattle.scim_message.specs.declared.messages.Answer.TheVariants.{Created, Replaced}
use Rattle.scim_message.specs.declared.messages.Request.TheVariants.{Create}
use Rattle.provider_core.proofs.RowLaws.{find-passes, same_name-eq}
use Rattle.provider_core.proofs.TableLaws.{found_at, same_if_eq}
use Rattle.provider_core.specs.Outcomes.{most_resources}
use Rattle.provider_core.specs.Stories.{Entry, story, Numbered, numbered_from, has_entry_id, if_entry_of_kind, entry_with_id, is_entry_of, first_entry, renewed, renew_at, row_of, Step, creating_entry, writing_entry, replacing_entry, step}
use Rattle.connector_core.specs.Asking.{replacement}
use Rattle.world_model.specs.Safe.{IsAt}
use Rattle.world_model.proofs.Answering.{found_by_id, of_its_kind}
use Rattle.world_model.proofs.Phases.{current_holds}
use Rattle.world_model.proofs.Room.{Lacks}

-- ---- a Replace

numbered_same : (n : Numbered) (number : ℕ) (e : Entry) → n.number ≡ number → n.entry ≡ e → n ≡ record { number = number; entry = e }
numbered_same n number e p q = λ i. record { number = p i; entry = q i }

-- the entry at a place is found by its id, with its number
numbered_by_id : (es : List Entry) (i : ℕ) (e : Entry) (id : List ℕ) → length es ≤ most_resources → IsAt es i e → id ≡ id_text (suc i)
    → find (has_entry_id id) (numbered_from 1 es) ≡ Some (record { number = suc i; entry = e })
numbered_by_id es i e id few at is =
    let f = found_by_id es i e id few at is in
    let (j, number, there) = found_at (has_entry_id id) 1 es f.n f.found in
    let has_id = (bytes_eq-Decides id (id_text f.n.number)).0 (find-passes (has_entry_id id) (numbered_from 1 es) f.n f.found) in
    let i_within = slice_get_within es i e at in
    let j_within = slice_get_within es j f.n.entry there in
    let numbers : suc i ≡ f.n.number = ids_differ (suc i) f.n.number (omega (arith, few, i_within)) (omega (arith, few, j_within, number)) (sym is ∙ has_id) in
    f.found ∙ ap Some (numbered_same f.n (suc i) e (sym numbers) f.same)

write_does : (same at_last holds : Bool) (n : Numbered) (es : List Entry) (content : Content) → same ≡ true → at_last ≡ false → holds ≡ true
    → writing_entry same at_last holds n es content ≡ record { entries = renew_at (n.number - 1) content es; answer = Replaced (shown (row_of n.number (renewed n.entry content))) }
write_does false at_last holds n es content is_same short is = absurd (cc)
write_does true true holds n es content is_same short is = absurd (cc)
write_does true false false n es content is_same short is = absurd (cc)
write_does true false true n es content is_same short is = refl

-- what the replacement of an entry's current version does
abbrev pub replaced_at : List Entry → (place : ℕ) → Entry → Content → Step
replaced_at es i e content = record { entries = renew_at i content es; answer = Replaced (shown (row_of (suc i) (renewed e content))) }

and_true : (b : Bool) → b ≡ true → (b && true) ≡ true
and_true b is = rw is refl

pub replace_does : (es : List Entry) (i : ℕ) (e : Entry) (id tag : List ℕ) (content : Content) → length es ≤ most_resources → IsAt es i e → id ≡ id_text (suc i) → e.name ≡ content_name content
    → length (story e) < last_version → tag ≡ version_tag (suc (length e.earlier)) → step es (replacement id tag content) ≡ replaced_at es i e content
replace_does es i e id tag content few at is named short current =
    let n : Numbered = record { number = suc i; entry = e } in
    let of_kind : e.name.kind ≡ content_kind content = ap (λ name. name.kind) named in
    let found : entry_with_id (content_kind content) id es ≡ Some n = ap (if_entry_of_kind (content_kind content)) (numbered_by_id es i e id few at is) ∙ of_its_kind (content_kind content) n of_kind in
    let place : suc i - 1 ≡ i = omega arith in
    ap (λ (o : Option Numbered). replacing_entry o es content (Tags (tag ∷ [])) Always) found
    ∙ write_does _ _ _ n es content (same_if_eq e.name (content_name content) named) (lt-leb last_version (length (story e)) short)
    (and_true (holds_match (Tags (tag ∷ [])) (Some (length (story e)))) (current_holds e tag short current))
    ∙ ap (λ (k : ℕ). record { entries = renew_at k content es; answer = Replaced (shown (row_of (suc i) (renewed e content))) }) place

pub renewed_here : (es : List Entry) (i : ℕ) (e : Entry) (content : Content) → IsAt es i e → IsAt (renew_at i content es) i (renewed e content)
renewed_here [] i e content at = absurd (cc)
renewed_here (d ∷ es) zero e content at = let same : d ≡ e = cc in ap (λ (x : Entry). Some (renewed x content)) same
renewed_here (d ∷ es) (suc i) e content at = renewed_here es i e content at

pub renewed_others : (es : List Entry) (i j : ℕ) (f : Entry) (content : Content) → IsAt es j f → (j ≡ i → ⊥) → IsAt (renew_at i content es) j f
renewed_others [] i j f content at other = absurd (cc)
renewed_others (d ∷ es) zero zero f content at other = absurd (other refl)
renewed_others (d ∷ es) zero (suc j) f content at other = at
renewed_others (d ∷ es) (suc i) zero f content at other = at
renewed_others (d ∷ es) (suc i) (suc j) f content at other = renewed_others es i j f content at (λ same. other (ap suc same))

-- ---- a Create

none_there : (name : RecordName) (es : List Entry) → Lacks es name → find (is_entry_of name) es ≡ None
none_there name [] lacks = refl
none_there name (d ∷ es) lacks =
    let other : is_entry_of name d ≡ false = false_from_ne_true _ (λ is. lacks 0 d refl (sym (same_name-eq name d.name is))) in
    ap (λ (b : Bool). cond b (Some d) (find (is_entry_of name) es)) other ∙ none_there name es (λ i e at. lacks (suc i) e at)

-- what a Create under a free name does
abbrev pub created_at : List Entry → Content → Step
created_at es content = record { entries = es ++ first_entry content ∷ []; answer = Created (shown (row_of (suc (length es)) (first_entry content))) }

pub create_does : (es : List Entry) (content : Content) → Lacks es (content_name content) → length es < most_resources → step es (Create content) ≡ created_at es content
create_does es content lacks free =
    ap (λ (o : Option Entry). creating_entry o (nat_le most_resources (length es)) es content) (none_there (content_name content) es lacks)
    ∙ ap (λ (b : Bool). creating_entry None b es content) (lt-leb most_resources (length es) free)
