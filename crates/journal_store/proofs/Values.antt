-- The test of a key, and what a column makes of the id that is written to it.
use Rattle.std.proofs.Common.{◌≡◌, ℕ, List, Option, Some, None, refl, ap, ◌∙◌}
use Rattle.std.specs.Ordering.{is_eq}
use Rattle.std.specs.Str.{bytes_eq}
use Rattle.std.proofs.lemmas.Map.Text.{is_eq-slice_cmp}
use Rattle.sqlite_value.specs.declared.value.Value.TheVariants.{Text}
use Rattle.sqlite_value.specs.Order.{Row, column, value_cmp}
use Rattle.sqlite_value.proofs.OrderLemmas.{value_cmp-Text}
use Rattle.sqlite_schema.specs.declared.schema.Kind.TheVariants as column
use Rattle.sqlite_rules.specs.Cast.{cast}
use Rattle.journal_store.specs.Rows.{id_value}
use Rattle.journal_store.specs.Connections.{has_key}

pub key_test : (r : Row) (key other : List ℕ) → column r 1 ≡ Text key → has_key other r ≡ bytes_eq key other
key_test r key other is = ap (λ v. is_eq (value_cmp v (Text other))) is ∙ ap is_eq (value_cmp-Text key other) ∙ is_eq-slice_cmp key other

-- a column of texts keeps an id, or NULL
pub cast_id : (id : Option (List ℕ)) → cast column.Text (id_value id) ≡ id_value id
cast_id None = refl
cast_id (Some id) = refl
