-- The texts of a user in their columns, one by one.
use Rattle.std.proofs.Common.{◌≡◌, ◌<◌, ℕ, zero, suc, List, [], ◌∷◌, map, get_or, length, Option, Some, None, refl, sym, ap, ◌∙◌, subst, arith}
use Rattle.std.specs.List.{AllByRecursion, AllZip, IsAmong}
use Rattle.std.specs.Option.{option_and_then}
use Rattle.std.specs.Str.{IsUtf8}
use Rattle.sqlite_value.specs.Value.{owned}
use Rattle.sqlite_value.specs.declared.value.ValueRef.{ValueRef}
use Rattle.sqlite_value.specs.declared.value.Value.{Value}
use Rattle.sqlite_value.specs.declared.value.Value.TheVariants.{Null, Int, Real, Text, Blob}
use Rattle.sqlite_value.specs.Order.{Row}
use Rattle.source_csv.specs.Rows.{UserFields, text_of}
use Rattle.source_csv.specs.declared.texts.TheConstants.{TEXT_FIELD_COUNT}
use Rattle.journal_store.specs.Tables.{places}
use Rattle.journal_store.specs.declared.format.TheConstants.{TEXT_ORDER}
use Rattle.journal_store.specs.Rows.{IsReadable, all_texts, text_columns, text_in, texts_in}

-- ---- a row of the source

shifted : (x : List ℕ) (xs : List (List ℕ)) (at count : ℕ) → map (λ i. get_or (x ∷ xs) i []) (places (suc at) count) ≡ map (λ i. get_or xs i []) (places at count)
shifted x xs at zero = refl
shifted x xs at (suc count) = ap (λ l. get_or xs at [] ∷ l) (shifted x xs (suc at) count)

each_place : (xs : List (List ℕ)) (count : ℕ) → length xs ≡ count → map (λ i. get_or xs i []) (places 0 count) ≡ xs
each_place [] zero is = refl
each_place [] (suc count) is = absurd (omega (arith, is))
each_place (x ∷ xs) zero is = absurd (omega (arith, is))
each_place (x ∷ xs) (suc count) is = ap (λ l. x ∷ l) (shifted x xs 0 count ∙ each_place xs count (omega (arith, is)))

-- the texts of a row, one by one, are its texts
pub row_texts : (u : UserFields) → length u.texts ≡ TEXT_FIELD_COUNT → map (text_of u) TEXT_ORDER ≡ u.texts
row_texts u count = each_place u.texts TEXT_FIELD_COUNT count

-- ---- columns

pub text_from : (v : Value) (text : List ℕ) → text_in v ≡ Some text → v ≡ Text text
text_from Null text is = absurd (cc)
text_from (Int n) text is = absurd (cc)
text_from (Real x) text is = absurd (cc)
text_from (Text t) text is = cc
text_from (Blob b) text is = absurd (cc)

-- the texts that were read of these values, one by one
pub texts_made : {R : ValueRef → List ℕ → Type 0} (cells : List ValueRef) (texts : List (List ℕ)) → AllZip R cells texts → ((cell : ValueRef) (text : List ℕ) → R cell text → (owned cell ≡ Text text) × IsUtf8 text)
    → (all_texts (map owned cells) ≡ Some texts) × AllByRecursion IsReadable (map owned cells)
texts_made [] [] all read = (refl, tt)
texts_made [] (t ∷ texts) all read = absurd all
texts_made (c ∷ cells) [] all read = absurd all
texts_made (c ∷ cells) (t ∷ texts) all read =
    let first = read c t all.0 in
    let later = texts_made cells texts all.1 read in
    (rw (first.0, later.0) refl, (subst IsReadable (sym first.0) first.1, later.1))

parts : (v : Value) (vs : List Value) (texts : List (List ℕ)) → all_texts (v ∷ vs) ≡ Some texts → (t : List ℕ) × (ts : List (List ℕ)) × (text_in v ≡ Some t) × (all_texts vs ≡ Some ts)
parts v vs texts is = go (text_in v) (all_texts vs) refl refl is
  where
    go : (o : Option (List ℕ)) (p : Option (List (List ℕ))) → text_in v ≡ o → all_texts vs ≡ p → option_and_then (λ t. option_and_then (λ ts. Some (t ∷ ts)) p) o ≡ Some texts
        → (t : List ℕ) × (ts : List (List ℕ)) × (text_in v ≡ Some t) × (all_texts vs ≡ Some ts)
    go None p a b both = absurd (cc)
    go (Some t) None a b both = absurd (cc)
    go (Some t) (Some ts) a b both = (t, ts, a, b)

lacks_at : (cells : List ValueRef) (cell : ValueRef) (i : ℕ) → i < length cells → cell ≡ get_or cells i cell → ((text : List ℕ) → owned cell ≡ Text text → IsUtf8 text → ⊥)
    → (texts : List (List ℕ)) → all_texts (map owned cells) ≡ Some texts → AllByRecursion IsReadable (map owned cells) → ⊥
lacks_at [] cell i low at none texts is readable = absurd (omega (arith, low))
lacks_at (c ∷ cells) cell zero low at none texts is readable =
    let it = parts (owned c) (map owned cells) texts is in
    let shown = text_from (owned c) it.0 it.2 in
    none it.0 (ap owned at ∙ shown) (subst IsReadable shown readable.0)
lacks_at (c ∷ cells) cell (suc i) low at none texts is readable =
    let it = parts (owned c) (map owned cells) texts is in lacks_at cells cell i (omega (arith, low)) at none it.1 it.3 readable.1

-- a value that is no text is among them
pub texts_lack : (cells : List ValueRef) (cell : ValueRef) → IsAmong cells cell → ((text : List ℕ) → owned cell ≡ Text text → IsUtf8 text → ⊥)
    → (texts : List (List ℕ)) → all_texts (map owned cells) ≡ Some texts → AllByRecursion IsReadable (map owned cells) → ⊥
texts_lack cells cell (i, (low, at)) none = lacks_at cells cell i low at none

-- the same, of the columns of a row
module _ (r : Row) (values : List Value) (are : values ≡ text_columns r) where
  pub in_columns : (texts : List (List ℕ)) → (all_texts values ≡ Some texts) × AllByRecursion IsReadable values → (texts_in r ≡ Some texts) × AllByRecursion IsReadable (text_columns r)
  unfolding texts_in
  in_columns texts shown = (ap all_texts (sym are) ∙ shown.0, subst (AllByRecursion IsReadable) are shown.1)

  pub of_columns : (texts : List (List ℕ)) → texts_in r ≡ Some texts → AllByRecursion IsReadable (text_columns r) → (all_texts values ≡ Some texts) × AllByRecursion IsReadable values
  unfolding texts_in
  of_columns texts is readable = (ap all_texts are ∙ is, subst (AllByRecursion IsReadable) (sym are) readable)
