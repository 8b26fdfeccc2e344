-- Types of resource and names of records: when two are the same, and their order.
use Rattle.std.specs.Prelude.{◌≡◌, ◌↔◌, ◌&&◌, ℕ, Bool, true, false}
use Rattle.std.specs.Cmp.{IsTotalOrder}
use Rattle.std.specs.Cmp.Lexicographic.{slice_cmp}
use Rattle.std.specs.Ordering.{is_eq, nat_cmp, on, then_cmp}
use Rattle.std.specs.Str.{bytes_eq}
use Rattle.std.specs.declared.cmp.Ordering.{Ordering}
use Rattle.scim_key.specs.declared.records.Kind.{Kind}
use Rattle.scim_key.specs.declared.records.Kind.TheVariants.{User, Group}
use Rattle.scim_key.specs.declared.records.RecordName.{RecordName}

abbrev pub same_kind : Kind → Kind → Bool
same_kind User User = true
same_kind User Group = false
same_kind Group User = false
same_kind Group Group = true

-- the same type and the same key
abbrev pub same_name : RecordName → RecordName → Bool
same_name a b = same_kind a.kind b.kind && bytes_eq a.key b.key

-- users come before groups
abbrev pub kind_place : Kind → ℕ
kind_place User = 0
kind_place Group = 1

-- the order of names: by type, then by the key's bytes
abbrev pub name_cmp : RecordName → RecordName → Ordering
name_cmp = then_cmp (on (λ name. kind_place name.kind) nat_cmp) (on (λ name. name.key) (slice_cmp nat_cmp))

-- The order of names is total, and only equal names compare as equal
pub record NamesAreOrdered : Type 0 where
  pub total : IsTotalOrder name_cmp
  pub tied : (a b : RecordName) → is_eq (name_cmp a b) ≡ same_name a b
  pub same : (a b : RecordName) → (same_name a b ≡ true) ↔ (a ≡ b)
  pub same_type : (k l : Kind) → (same_kind k l ≡ true) ↔ (k ≡ l)
