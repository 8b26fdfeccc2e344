-- Names of records are the same exactly if they are equal.
use Rattle.std.proofs.Common.{◌≡◌, ◌↔◌, ℕ, true, List, refl}
use Rattle.std.specs.Str.{bytes_eq}
use Rattle.std.proofs.lemmas.Bool.{and_parts}
use Rattle.std.proofs.lemmas.Slice.Eq.{bytes_eq-Decides}
use Rattle.scim_key.specs.RecordOrder.{names_total, tied}
use Rattle.scim_key.specs.Records.{NamesAreOrdered, same_kind, same_name}
use Rattle.scim_key.specs.declared.records.Kind.{Kind}
use Rattle.scim_key.specs.declared.records.Kind.TheVariants.{User, Group}
use Rattle.scim_key.specs.declared.records.RecordName.{RecordName}

kind_from_test : (k l : Kind) → same_kind k l ≡ true → k ≡ l
kind_from_test User User e = refl
kind_from_test User Group e = absurd (cc)
kind_from_test Group User e = absurd (cc)
kind_from_test Group Group e = refl

kind_itself : (k : Kind) → same_kind k k ≡ true
kind_itself User = refl
kind_itself Group = refl

pub same_type : (k l : Kind) → (same_kind k l ≡ true) ↔ (k ≡ l)
same_type k l = (kind_from_test k l, λ e. rw e (kind_itself l))

abbrev of : Kind → List ℕ → RecordName
of kind key = record { kind = kind; key = key }

from_parts : (k l : Kind) (x y : List ℕ) → k ≡ l → x ≡ y → of k x ≡ of l y
from_parts k l x y kinds keys = rw (kinds, keys)

name_from_test : (a b : RecordName) → same_name a b ≡ true → a ≡ b
name_from_test a b e =
    let parts = and_parts (same_kind a.kind b.kind) (bytes_eq a.key b.key) e in
    from_parts a.kind b.kind a.key b.key (kind_from_test a.kind b.kind parts.0) ((bytes_eq-Decides a.key b.key).0 parts.1)

name_itself : (a : RecordName) → same_name a a ≡ true
name_itself a = rw (kind_itself a.kind) ((bytes_eq-Decides a.key a.key).1 refl)

pub same : (a b : RecordName) → (same_name a b ≡ true) ↔ (a ≡ b)
same a b = (name_from_test a b, λ e. rw e (name_itself b))

pub are_ordered : NamesAreOrdered
are_ordered = record {
  total = names_total;
  tied = tied;
  same = same;
  same_type = same_type;
}
