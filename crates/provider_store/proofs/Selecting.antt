-- The tests of the queries over the table of resources.
use Rattle.std.proofs.Common.{◌≡◌, ℕ, ℤ, pos, ◌&&◌, List, [], ◌∷◌, refl, ◌∙◌}
use Rattle.sqlite_value.specs.declared.value.Value.TheVariants.{Int, Text}
use Rattle.sqlite_value.specs.Order.{Row, column, value_cmp}
use Rattle.scim_key.specs.declared.records.RecordName.{RecordName}
use Rattle.std.specs.Ordering.{int_eq, is_eq}
use Rattle.std.specs.Str.{bytes_eq}
use Rattle.sqlite_trees.specs.Tree.{has_rowid}
use Rattle.provider_store.proofs.Texts.{number_is, name_terms}
use Rattle.sql_tables.proofs.Selecting.{and_true, passes}
use Rattle.provider_store.specs.Lawful.{has_name}
use Rattle.provider_store.specs.Rows.{kind_code}
use Rattle.sql_tables.proofs.Values.{equal_rowid, equal_numbers, equal_texts, equal_number_at, equal_text_at}

-- the test of a number is that of the rowid
pub number_passes : (n : ℤ) (rest r : Row) → passes (number_is ∷ []) (Int n ∷ rest) r ≡ has_rowid n r
number_passes n rest r = and_true _ ∙ equal_rowid (column r 0) n

-- the test of a name is that of its kind and its key
pub name_tests : (name : RecordName) (r : Row) → passes name_terms (Int (pos (kind_code name.kind)) ∷ Text name.key ∷ []) r ≡ has_name name r
name_tests name r = rw (equal_number_at (column r 2) (pos (kind_code name.kind)), equal_text_at (column r 3) name.key, and_true (is_eq (value_cmp (column r 3) (Text name.key)))) refl

-- a row passes the test for a name if it has its kind and its key
pub name_passes : (k m : ℤ) (key other : List ℕ) (r : Row) → column r 2 ≡ Int m → column r 3 ≡ Text other → passes name_terms (Int k ∷ Text key ∷ []) r ≡ (int_eq m k && bytes_eq other key)
name_passes k m key other r kind text = rw (kind, text, equal_numbers m k, equal_texts other key, and_true (bytes_eq other key)) refl
