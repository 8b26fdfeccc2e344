-- Comparisons of values.
use Rattle.std.proofs.Common.{◌≡◌, ◌<◌, ◌^◌, ℕ, ℤ, pos, w64, to_z, of_z, Bool, true, false, cond, List, Some, refl, sym, ap, ◌∙◌}
use Rattle.std.proofs.lemmas.Int.{to_z_pos}
use Rattle.std.specs.Ordering.{is_eq, int_eq}
use Rattle.std.specs.Str.{bytes_eq}
use Rattle.std.proofs.lemmas.Map.Text.{is_eq-slice_cmp}
use Rattle.sqlite_value.specs.declared.value.Value.{Value}
use Rattle.sqlite_value.specs.declared.value.Value.TheVariants.{Null, Int, Real, Text, Blob}
use Rattle.sqlite_value.specs.declared.keys.Collation.TheVariants.{Binary}
use Rattle.sqlite_value.specs.Order.{Row, value_cmp}
use Rattle.sqlite_value.proofs.OrderLemmas.{value_cmp-Int, value_cmp-Text, value_cmp-Null}
use Rattle.sqlite_sql.specs.Ops.{unary, binary, is_true, from_truth}
use Rattle.sqlite_sql.specs.declared.ops.UnaryOp.TheVariants.{ToNumeric}
use Rattle.sqlite_sql.specs.declared.ops.BinaryOp.TheVariants.{Compare}
use Rattle.sqlite_sql.specs.declared.ops.CompareOp.TheVariants.{Eq}
use Rattle.sqlite_schema.specs.declared.schema.Kind.TheVariants.{Integer}
use Rattle.sqlite_rules.specs.Cast.{cast}
use Rattle.sqlite_trees.specs.Tree.{rowid, has_rowid}

truth_is : (b : Bool) → is_true (from_truth (Some b)) ≡ b
truth_is true = refl
truth_is false = refl

pub equal_ints : (m n : ℤ) → is_true (binary (Compare Eq Binary) (Int m) (Int n)) ≡ int_eq m n
unfolding binary
equal_ints m n = truth_is (is_eq (value_cmp (Int m) (Int n))) ∙ ap is_eq (value_cmp-Int m n)

pub equal_numbers : (m n : ℤ) → is_true (binary (Compare Eq Binary) (Int m) (unary ToNumeric (Int n))) ≡ int_eq m n
unfolding unary
equal_numbers m n = equal_ints m n

pub equal_texts : (s t : List ℕ) → is_true (binary (Compare Eq Binary) (Text s) (Text t)) ≡ bytes_eq s t
unfolding binary
equal_texts s t = truth_is (is_eq (value_cmp (Text s) (Text t))) ∙ ap is_eq (value_cmp-Text s t) ∙ is_eq-slice_cmp s t

-- the test of a number in a statement is that of the rowid
pub equal_rowid : (v : Value) (n : ℤ) → is_true (binary (Compare Eq Binary) v (Int n)) ≡ is_eq (value_cmp v (Int n))
unfolding binary
equal_rowid Null n = ap is_eq (sym (value_cmp-Null (Int n)))
equal_rowid (Int m) n = truth_is _
equal_rowid (Real x) n = truth_is _
equal_rowid (Text t) n = truth_is _
equal_rowid (Blob b) n = truth_is _

pub equal_number_at : (v : Value) (n : ℤ) → is_true (binary (Compare Eq Binary) v (unary ToNumeric (Int n))) ≡ is_eq (value_cmp v (Int n))
unfolding unary
equal_number_at v n = equal_rowid v n

pub equal_text_at : (v : Value) (t : List ℕ) → is_true (binary (Compare Eq Binary) v (Text t)) ≡ is_eq (value_cmp v (Text t))
unfolding binary
equal_text_at Null t = ap is_eq (sym (value_cmp-Null (Text t)))
equal_text_at (Int m) t = truth_is _
equal_text_at (Real x) t = truth_is _
equal_text_at (Text s) t = truth_is _
equal_text_at (Blob b) t = truth_is _

pub rowid_is : (r : Row) (m n : ℤ) → rowid r ≡ Int m → has_rowid n r ≡ int_eq m n
rowid_is r m n is = ap (λ v. is_eq (value_cmp v (Int n))) is ∙ ap is_eq (value_cmp-Int m n)

either : (b : Bool) (v : Value) → cond b v v ≡ v
either true v = refl
either false v = refl

-- a column of integers keeps an integer, and the column of the number keeps NULL
pub cast_int : (n : ℤ) → cast Integer (Int n) ≡ Int n
unfolding unary
cast_int n = either _ (Int n)

pub cast_null : cast Integer Null ≡ Null
unfolding unary
cast_null = either _ Null

-- a number that fits is bound as it is
pub bound_int : (x : ℤ) (n : ℕ) → x ≡ pos n → n < 2 ^ 63 → to_z w64 (of_z w64 x) ≡ pos n
bound_int x n is low = ap (λ (z : ℤ). to_z w64 (of_z w64 z)) is ∙ to_z_pos w64 n low
