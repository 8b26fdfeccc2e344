-- Laws of the order of names, in the form that the comparisons in code cite.
use Rattle.std.proofs.Common.{◌≡◌, ◌&&◌, ℕ, List, refl, sym, subst}
use Rattle.std.specs.Cmp.{IsEquivalence, IsTotalOrder}
use Rattle.std.specs.Ordering.{eq_by_cmp, is_eq}
use Rattle.std.specs.Str.{bytes_eq}
use Rattle.std.proofs.lemmas.Cmp.{eq_by_cmp_equiv, nat_cmp_total, nat_list_cmp_total, on_total, then_total}
use Rattle.std.proofs.lemmas.Map.Text.{is_eq-slice_cmp}
use Rattle.scim_key.specs.Records.{kind_place, name_cmp, same_kind, same_name}
use Rattle.scim_key.specs.declared.records.Kind.{Kind}
use Rattle.scim_key.specs.declared.records.Kind.TheVariants.{User, Group}
use Rattle.scim_key.specs.declared.records.RecordName.{RecordName}

pub names_total : IsTotalOrder name_cmp
names_total =
    then_total (on_total (λ name. kind_place name.kind) nat_cmp_total) (on_total (λ name. name.key) nat_list_cmp_total)

abbrev of : Kind → List ℕ → RecordName
of kind key = record { kind = kind; key = key }

tied_parts : (k l : Kind) (x y : List ℕ) → is_eq (name_cmp (of k x) (of l y)) ≡ (same_kind k l && bytes_eq x y)
tied_parts User User x y = is_eq-slice_cmp x y
tied_parts User Group x y = refl
tied_parts Group User x y = refl
tied_parts Group Group x y = is_eq-slice_cmp x y

pub tied : (a b : RecordName) → is_eq (name_cmp a b) ≡ same_name a b
tied a b = tied_parts a.kind b.kind a.key b.key

pub names_tie : (a b : RecordName) → same_name a b ≡ eq_by_cmp name_cmp a b
names_tie a b = sym (tied a b)

pub names_equal : IsEquivalence same_name
names_equal = subst (λ E. IsEquivalence E) (λ i a b. tied a b i) (eq_by_cmp_equiv names_total)
