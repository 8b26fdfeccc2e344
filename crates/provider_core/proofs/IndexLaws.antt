-- What a filter that names one record finds.
use Rattle.std.proofs.Common.{◌≡◌, Bool, true, false, ◌&&◌, cond, List, [], ◌∷◌, Option, Some, None, refl, sym, ap, ◌∙◌}
use Rattle.std.specs.List.{filter, AllByRecursion}
use Rattle.std.specs.Option.{option_to_list}
use Rattle.std.proofs.lemmas.Map.Keys.{IsDistinct-head, IsDistinct-tail}
use Rattle.scim_key.specs.declared.records.Kind.{Kind}
use Rattle.scim_key.specs.declared.records.RecordName.{RecordName}
use Rattle.scim_resource.specs.Contents.{content_kind, content_name}
use Rattle.scim_resource.specs.Rows.{StoredRecord}
use Rattle.scim_filter.specs.Expressions.{Expression}
use Rattle.scim_filter.specs.Matching.{satisfies}
use Rattle.scim_filter.specs.Names.{single_key}
use Rattle.scim_filter.proofs.Keys.{keys_decide}
use Rattle.provider_core.specs.Rows.{same_kind, same_name, is_named, row_named, names_of, AreNamedApart}
use Rattle.provider_core.specs.Searches.{is_hit}
use Rattle.provider_core.proofs.RowLaws.{same_name-eq, same_name-self, both_true}

-- the filter tests the name
tests-name : (wanted : Expression) (name : RecordName) (row : StoredRecord) → single_key wanted ≡ Some name → satisfies wanted row ≡ is_named name row
tests-name wanted name row names =
    let decides = keys_decide wanted name row names in
    both_true (satisfies wanted row) (is_named name row)
    (λ passes. ap (λ held. same_name name held) (decides.0 passes) ∙ same_name-self name)
    (λ named. decides.1 (sym (same_name-eq name (content_name row.content) named)))

-- no later row is of the first row's record
none-later : (name : RecordName) (rows : List StoredRecord) → AllByRecursion (λ other. same_name name other ≡ false) (names_of rows) → row_named name rows ≡ None
none-later name [] apart = refl
none-later name (r ∷ rs) apart = here (is_named name r) apart.0 (none-later name rs apart.1)
  where
    here : (b : Bool) → b ≡ false → row_named name rs ≡ None → cond b (Some r) (row_named name rs) ≡ None
    here true other ih = absurd (cc)
    here false other ih = ih

-- what is found among this row and those after it
found-here : (hit : StoredRecord → Bool) (row : StoredRecord) (named of_kind passes : Bool) (later : List StoredRecord) (next : Option StoredRecord) → hit row ≡ (of_kind && passes) → passes ≡ named
    → (named ≡ true → next ≡ None) → later ≡ filter hit (option_to_list next)
    → cond (of_kind && passes) (row ∷ later) later ≡ filter hit (option_to_list (cond named (Some row) next))
found-here hit row true true true later next is same alone ih = let none : later ≡ [] = rw (alone refl) at ih in rw (none, is) refl
found-here hit row true false true later next is same alone ih = let none : later ≡ [] = rw (alone refl) at ih in rw (none, is) refl
found-here hit row true of_kind false later next is same alone ih = absurd (cc)
found-here hit row false of_kind true later next is same alone ih = absurd (cc)
found-here hit row false true false later next is same alone ih = ih
found-here hit row false false false later next is same alone ih = ih

-- A filter that names one record finds in all rows what it finds in that record's row
pub hits-named : (kind : Kind) (wanted : Expression) (name : RecordName) (rows : List StoredRecord) → single_key wanted ≡ Some name → AreNamedApart rows
    → filter (is_hit kind (Some wanted)) rows ≡ filter (is_hit kind (Some wanted)) (option_to_list (row_named name rows))
hits-named kind wanted name [] names apart = refl
hits-named kind wanted name (r ∷ rs) names apart =
    found-here (is_hit kind (Some wanted)) r (is_named name r) (same_kind kind (content_kind r.content)) (satisfies wanted r) (filter (is_hit kind (Some wanted)) rs) (row_named name rs) refl (tests-name wanted name r names)
    (λ named. ap (λ n. row_named n rs) (same_name-eq name (content_name r.content) named) ∙ none-later (content_name r.content) rs (IsDistinct-head same_name (content_name r.content) (names_of rs) apart))
    (hits-named kind wanted name rs names (IsDistinct-tail same_name (content_name r.content) (names_of rs) apart))
