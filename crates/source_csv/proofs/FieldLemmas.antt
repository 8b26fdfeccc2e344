-- The readers of fields, as the code takes its steps.
use Rattle.std.proofs.Common.{◌≡◌, ℕ, zero, suc, ◌+◌, ◌<◌, Option, Some, None, add-one, filter, inl, inr, MatchOption, List, [], ◌∷◌, ◌++◌, Bool, true, false, not, ◌&&◌, ◌||◌, cond, Ok, Err, Bor, drop, length, map, refl, ap, sym, append_assoc, ◌∙◌, arith}
use Rattle.std.proofs.lemmas.Bool.{and_parts, cases_Bool, false_from_ne_true}
use Rattle.std.proofs.lemmas.List.Folds.{list_all-map, list_all_at}
use Rattle.std.proofs.lemmas.Str.{IsUtf8-from_is_utf8, is_utf8-from_IsUtf8}
use Rattle.std.specs.List.{AllZip, IsAmong, list_all, list_any, position, prefix_len}
use Rattle.std.specs.Str.{is_utf8}
use Rattle.csv.specs.Records.{AllText, field_at}
use Rattle.source_csv.specs.Columns.{Record, field, named}
use Rattle.source_csv.specs.Fields.{RefusedFor, SomeIsLong, read_texts}
use Rattle.source_csv.specs.Texts.{is_short}
use Rattle.source_csv.specs.declared.faults.Refusal.{Refusal}
use Rattle.source_csv.specs.declared.faults.Refusal.TheVariants.{Refused, Memory}
use Rattle.source_csv.specs.declared.faults.RowCode.{RowCode}
use Rattle.source_csv.specs.declared.faults.RowCode.TheVariants as code

-- the test of UTF-8 says what `csv` says of a record of text
pub texts_from_test : (fields : Record) → list_all is_utf8 fields ≡ true → AllText fields
unfolding AllText
texts_from_test [] h = tt
texts_from_test (f ∷ fs) h =
    let parts = and_parts (is_utf8 f) (list_all is_utf8 fs) h in
    (IsUtf8-from_is_utf8 f parts.0, texts_from_test fs parts.1)

pub test_from_texts : (fields : Record) → AllText fields → list_all is_utf8 fields ≡ true
unfolding AllText
test_from_texts [] h = refl
test_from_texts (f ∷ fs) h = rw (is_utf8-from_IsUtf8 f h.0, test_from_texts fs h.1)

pub read_texts-text : (fields : Record) → AllText fields → read_texts fields ≡ Ok fields
unfolding read_texts
read_texts-text fields h = rw (test_from_texts fields h)

pub read_texts-bytes : (fields : Record) → (AllText fields → ⊥) → read_texts fields ≡ Err code.NotUtf8
unfolding read_texts
read_texts-bytes fields bytes =
    let e : list_all is_utf8 fields ≡ false = false_from_ne_true _ (λ h. bytes (texts_from_test fields h)) in
    rw e

-- the record, read as text, is the record itself
pub read_texts-same : (fields texts : Record) → read_texts fields ≡ Ok texts → texts ≡ fields
unfolding read_texts
read_texts-same fields texts e = by (list_all is_utf8 fields) e
  where
    by : (b : Bool) → cond b (Ok fields) (Err code.NotUtf8) ≡ Ok texts → texts ≡ fields
    by true e = cc
    by false e = cc

-- ---- the fields from a place on

-- the remaining fields at a place begin with the one there
pub drop_field : (fields : Record) (place : ℕ) → place < length fields → drop place fields ≡ field fields place ∷ drop (suc place) fields
unfolding field_at
drop_field [] place less = absurd (omega arith)
drop_field (f ∷ fields) zero less = refl
drop_field (f ∷ fields) (suc place) less = drop_field fields place (omega arith)

pub text_here : (fields : Record) (place : ℕ) (here : Bool) → place < length fields → is_utf8 (field fields place) ≡ here
    → list_all is_utf8 (drop place fields) ≡ list_all is_utf8 fields → (here && list_all is_utf8 (drop (suc place) fields)) ≡ list_all is_utf8 fields
text_here fields place here less is so_far = rw (sym is) (sym (ap (list_all is_utf8) (drop_field fields place less)) ∙ so_far)

pub names_more : (front : Record) (fields : Record) (place : ℕ) → place < length fields → front ++ drop place fields ≡ fields
    → (front ++ field fields place ∷ []) ++ drop (suc place) fields ≡ fields
names_more front fields place less so_far = append_assoc front (field fields place ∷ []) (drop (suc place) fields) ∙ ap (λ (l : Record). front ++ l) (sym (drop_field fields place less)) ∙ so_far

-- ---- names of columns

pub any-named : (test : List ℕ → Bool) (columns : List (Bor (List ℕ))) → list_any test (named columns) ≡ list_any (λ c. test c.now) columns
any-named test [] = refl
any-named test (c ∷ columns) = ap (λ (b : Bool). test c.now || b) (any-named test columns)

pub filtered-named : (test : List ℕ → Bool) (columns : List (Bor (List ℕ))) → length (filter test (named columns)) ≡ length (filter (λ c. test c.now) columns)
filtered-named test [] = refl
filtered-named test (c ∷ columns) = elim (cases_Bool (test c.now)) [
  | inl is ↦ rw is (ap suc (filtered-named test columns))
  | inr is ↦ rw is (filtered-named test columns)
]

named-append : (one two : List (Bor (List ℕ))) → named (one ++ two) ≡ named one ++ named two
named-append [] two = refl
named-append (c ∷ one) two = ap (λ (l : Record). c.now ∷ l) (named-append one two)

pub names_pushed : (names more : List (Bor (List ℕ))) (name : Bor (List ℕ)) (fields : Record) (place : ℕ) → more ≡ names ++ name ∷ []
    → name.now ≡ field fields place → place < length fields → named names ++ drop place fields ≡ fields → named more ++ drop (place + 1) fields ≡ fields
names_pushed names more name fields place pushed is less so_far =
    let last : named more ≡ named names ++ field fields place ∷ [] = ap named pushed ∙ named-append names (name ∷ []) ∙ ap (λ (f : List ℕ). named names ++ f ∷ []) is in
    rw (last, add-one) (names_more (named names) fields place less so_far)

-- ---- tests of options

pub none_is : {X : Type 0} (P : Type 0) (Q : X → Type 0) (found : Option X) → found ≡ None → MatchOption found P Q → P
none_is P Q found e h = rw e at h

pub some_is : {X : Type 0} (P : Type 0) (Q : X → Type 0) (found : Option X) (x : X) → found ≡ Some x → MatchOption found P Q → Q x
some_is P Q found x e h = rw e at h

-- a place among names is one among the columns
front-named : (test : List ℕ → Bool) (columns : List (Bor (List ℕ))) → prefix_len test (named columns) ≡ prefix_len (λ c. test c.now) columns
front-named test [] = refl
front-named test (c ∷ columns) = rw (front-named test columns) refl

pub length_named : (columns : List (Bor (List ℕ))) → length (named columns) ≡ length columns
length_named [] = refl
length_named (c ∷ columns) = ap suc (length_named columns)

pub position-named : (test : List ℕ → Bool) (columns : List (Bor (List ℕ))) → position test (named columns) ≡ position (λ c. test c.now) columns
position-named test columns = rw (front-named (λ c. not (test c)) columns, length_named columns) refl

-- the texts of these fields, which were read one by one
pub values_made : {R : Bor (List ℕ) → List ℕ → Type 0} (fields : List (Bor (List ℕ))) (values : List (List ℕ)) → AllZip R fields values
    → ((f : Bor (List ℕ)) (v : List ℕ) → R f v → (v ≡ f.now) × (is_short v ≡ true))
    → (values ≡ map (λ f. f.now) fields) × (list_all is_short values ≡ true)
values_made [] [] all read = (refl, refl)
values_made [] (v ∷ values) all read = absurd all
values_made (f ∷ fields) [] all read = absurd all
values_made (f ∷ fields) (v ∷ values) all read =
    let one = read f v all.0 in
    let rest = values_made fields values all.1 read in
    (rw (one.0, rest.0) refl, rw (one.1, rest.1) refl)

-- a field of a text of a user that is too long
long_in : (fields : List (Bor (List ℕ))) (all : List (List ℕ)) (text : Bor (List ℕ)) → map (λ f. f.now) fields ≡ all
    → IsAmong fields text → is_short text.now ≡ false → list_all is_short all ≡ false
long_in fields all text same (i, (fits, at)) long =
    let some : list_all (λ f. is_short f.now) fields ≡ false = list_all_at (λ f. is_short f.now) fields i text fits (ap (λ (f : Bor (List ℕ)). is_short f.now) (sym at) ∙ long) in
    rw (← same) (list_all-map is_short (λ (f : Bor (List ℕ)). f.now) fields ∙ some)

pub long_among : (fields : List (Bor (List ℕ))) (all : List (List ℕ)) (text : Bor (List ℕ)) → map (λ f. f.now) fields ≡ all
    → IsAmong fields text → is_short text.now ≡ false → SomeIsLong all
unfolding SomeIsLong
long_among fields all text same among long = long_in fields all text same among long

pub refused_weaker : {P Q : Type 0} (code : RowCode) (e : Refusal) → (P → Q) → RefusedFor code P e → RefusedFor code Q e
refused_weaker code (Refused c) f (same, p) = (same, f p)
refused_weaker code Memory f p = tt
