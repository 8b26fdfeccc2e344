-- How often each name stands in a snapshot.
use Rattle.std.proofs.Common.{◌≡◌, ℕ, ◌+◌, Some, refl, ap, ◌∙◌, inl, inr}
use Rattle.std.proofs.lemmas.Bool.{cases_Bool}
use Rattle.std.specs.BTreeMap.{BTreeMap, Updates, get}
use Rattle.scim_key.specs.RecordOrder.{tied}
use Rattle.scim_key.specs.Records.{name_cmp, same_name}
use Rattle.scim_key.specs.declared.records.RecordName.{RecordName}
use Rattle.journal_core.proofs.Trees.{name_from_test}
use Rattle.snapshots.specs.Tally.{count_in, mentioned_more}

-- one more of this name
pub counted : (old new : BTreeMap RecordName ℕ) (name : RecordName) (count : ℕ) → count ≡ count_in old name
    → Updates name_cmp old new name (Some (count + 1))
    → (other : RecordName) → count_in new other ≡ mentioned_more (count_in old) name other
counted old new name count is updates other = elim (cases_Bool (same_name name other)) [
  | inl e ↦
      let here : get name_cmp new other ≡ Some (count + 1) = updates.0 other ∙ rw (tied name other, e) refl in
      let same : name ≡ other = name_from_test name other e in
      rw (here, e) (ap (λ n. n + 1) (is ∙ ap (count_in old) same))
  | inr e ↦
      let there : get name_cmp new other ≡ get name_cmp old other = updates.0 other ∙ rw (tied name other, e) refl in
      rw (there, e) refl
]
