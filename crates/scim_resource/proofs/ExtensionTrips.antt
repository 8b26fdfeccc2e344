-- The extensions of a resource that are written are plain, and are read back as themselves.
use Rattle.std.proofs.Common.{◌≡◌, ℕ, ◌≤◌, ◌<◌, ◌^◌, ◌==◌, List, [], ◌∷◌, codes, true, false, Option, Some, None, Ok, refl, sym, ap, ap₂, ◌∙◌, inl, inr, arith, eqb-true}
use Rattle.std.proofs.lemmas.Bool.{cases_Bool}
use Rattle.std.proofs.lemmas.Slice.Eq.{bytes_eq-Decides}
use Rattle.std.specs.Str.{str_to_ascii_lowercase}
use Rattle.scim_key.specs.Outcome.{◌>>=◌}
use Rattle.scim_key.specs.Revisions.{RevisionValue, revision_epoch, revision_number, revision_of_parts}
use Rattle.scim_key.proofs.RevisionLaws.{are_read_back}
use Rattle.serde_json.specs.Data.{array, depth, items_depth}
use Rattle.scim_json.specs.Attributes.{attribute, present, same_name, value_repeats}
use Rattle.scim_json.specs.Plain.{IsPlain, ItemsArePlain}
use Rattle.scim_json.specs.Values.{some_text, whole_in}
use Rattle.scim_json.specs.Writing.{members_from}
use Rattle.scim_json.proofs.Parts.{part_named, named-members_from, repeats-members_from, IsPlainIf, MembersArePlain-members_from, depth_if, members_depth-members_from}
use Rattle.scim_resource.specs.Reading.{checked, all_texts, lawful_revision, lists_schema, revision_in, revision_of, revision_with}
use Rattle.scim_resource.specs.Users.{IsSourceRevision}
use Rattle.scim_resource.specs.Writing.{Extension, epoch_data, schemas_data, source_data, source_parts, urns_of}

-- ---- the source extension

pub source_present : (r : Option RevisionValue) → present (source_data r) ≡ source_data r
source_present None = refl
source_present (Some r) = refl

epoch_present : (n : ℕ) → present (epoch_data n) ≡ epoch_data n
epoch_present n = elim (cases_Bool (n == 0)) [
  | inl first ↦ rw first refl
  | inr not ↦ rw not refl
]

-- an epoch that isn't written is read as 0
epoch_read : (epoch number : ℕ) → checked (whole_in (epoch_data epoch)) >>= revision_with number ≡ lawful_revision (revision_of_parts epoch number)
epoch_read epoch number = elim (cases_Bool (epoch == 0)) [
  | inl first ↦ rw first (ap (λ e. lawful_revision (revision_of_parts e number)) (sym (eqb-true epoch 0 first)))
  | inr not ↦ rw not refl
]

epoch_plain : (n : ℕ) → n < 2 ^ 64 → IsPlainIf (epoch_data n)
epoch_plain n fits = elim (cases_Bool (n == 0)) [
  | inl first ↦ rw first tt
  | inr not ↦ rw not fits
]

epoch_depth : (n : ℕ) → depth_if (epoch_data n) ≤ 0
epoch_depth n = elim (cases_Bool (n == 0)) [
  | inl first ↦ rw first (omega arith)
  | inr not ↦ rw not (omega arith)
]

part_found : (name : List ℕ) (r : RevisionValue) → attribute name (members_from (source_parts r)) ≡ present (part_named name (source_parts r))
part_found name r = ap present (named-members_from name (source_parts r) refl)

pub source_read : (r : Option RevisionValue) → IsSourceRevision r → revision_in (source_data r) ≡ Ok r
source_read None h = refl
source_read (Some r) h =
    ap₂ (λ n e. checked (whole_in n) >>= revision_of (whole_in e)) (part_found (codes "revision") r) (part_found (codes "epoch") r ∙ epoch_present (revision_epoch r))
    ∙ epoch_read (revision_epoch r) (revision_number r) ∙ ap lawful_revision (are_read_back.from_parts r h)

pub source_repeats : (r : Option RevisionValue) → value_repeats (source_data r) ≡ false
source_repeats None = refl
source_repeats (Some r) = repeats-members_from (source_parts r) refl

pub source_plain : (r : Option RevisionValue) → IsSourceRevision r → IsPlainIf (source_data r)
source_plain None h = tt
source_plain (Some r) h =
    let fits = are_read_back.parts_fit r h in
    MembersArePlain-members_from (source_parts r) refl (epoch_plain (revision_epoch r) fits.0, (fits.1, tt))

pub source_depth : (r : Option RevisionValue) → depth_if (source_data r) ≤ 2
source_depth None = omega arith
source_depth (Some r) = omega (arith, members_depth-members_from 0 (source_parts r) (epoch_depth (revision_epoch r), (omega arith, tt)))

-- ---- `schemas`

same_as_itself : (core : List ℕ) → same_name core core ≡ true
same_as_itself core = let low = str_to_ascii_lowercase core in (bytes_eq-Decides low low).1 refl

urns_are_texts : (es : List Extension) → all_texts (urns_of es) ≡ true
unfolding all_texts
urns_are_texts [] = refl
urns_are_texts ((urn, true) ∷ es) = urns_are_texts es
urns_are_texts ((urn, false) ∷ es) = urns_are_texts es

pub schemas_listed : (core : List ℕ) (es : List Extension) → lists_schema core (Some (array (schemas_data core es))) ≡ true
unfolding all_texts some_text
schemas_listed core es = rw (urns_are_texts es, same_as_itself core) refl

urns_plain : (es : List Extension) → ItemsArePlain (urns_of es)
urns_plain [] = tt
urns_plain ((urn, true) ∷ es) = (tt, urns_plain es)
urns_plain ((urn, false) ∷ es) = urns_plain es

pub schemas_plain : (core : List ℕ) (es : List Extension) → IsPlain (array (schemas_data core es))
schemas_plain core es = (tt, urns_plain es)

urns_depth : (es : List Extension) → items_depth (urns_of es) ≤ 0
urns_depth [] = omega arith
urns_depth ((urn, true) ∷ es) = omega (arith, urns_depth es)
urns_depth ((urn, false) ∷ es) = urns_depth es

pub schemas_depth : (core : List ℕ) (es : List Extension) → depth (array (schemas_data core es)) ≤ 2
schemas_depth core es = omega (arith, urns_depth es)
