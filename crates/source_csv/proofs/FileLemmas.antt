-- The records of a file: its header, and the rest one by one.
use Rattle.std.proofs.Common.{◌≡◌, ℕ, suc, ◌+◌, List, [], ◌∷◌, ◌++◌, Bool, true, false, Some, None, Bor, length, map, refl, ap, sym, subst, inl, inr, append_assoc, length-append, ◌∙◌, ◌&&◌, arith}
use Rattle.std.proofs.lemmas.Bool.{and_parts, cases_Bool, false_from_ne_true}
use Rattle.std.specs.List.{enumerate_from, find, list_all}
use Rattle.std.specs.Option.{option_map}
use Rattle.std.specs.Str.{bytes_eq}
use Rattle.csv.specs.Machine.{Read, next_record}
use Rattle.csv.specs.Reading.{AreRecords, Reached}
use Rattle.csv.specs.declared.parser.Config.{Config}
use Rattle.csv.specs.Records.{field_at}
use Rattle.csv.specs.declared.parser.State.{State}
use Rattle.source_csv.specs.Columns.{Record, field, named}
use Rattle.source_csv.proofs.FieldLemmas.{length_named}
use Rattle.source_csv.specs.Files.{same_record}

same_length : (one two : Record) → same_record one two ≡ true → length one ≡ length two
same_length [] [] e = refl
same_length [] (f ∷ two) e = cc
same_length (f ∷ one) [] e = cc
same_length (f ∷ one) (g ∷ two) e = ap suc (same_length one two (and_parts (bytes_eq f g) (same_record one two) e).1)

-- columns are asked field by field
field_seam : (front rest : Record) (f : List ℕ) → field (front ++ f ∷ rest) (length front) ≡ f
unfolding field_at
field_seam [] rest f = refl
field_seam (g ∷ front) rest f = field_seam front rest f

match_from : (front rest : Record) (columns : List (Bor (List ℕ))) → length rest ≡ length columns
    → list_all (λ p. bytes_eq (field (front ++ rest) p.0) p.1.now) (enumerate_from (length front) columns) ≡ same_record rest (named columns)
match_from front [] [] same = refl
match_from front [] (c ∷ columns) same = absurd (omega arith)
match_from front (f ∷ rest) [] same = absurd (omega arith)
match_from front (f ∷ rest) (c ∷ columns) same =
    let next = match_from (front ++ f ∷ []) rest columns (omega arith) in
    let place : length (front ++ f ∷ []) ≡ length front + 1 = simp length-append (omega arith) in
    rw field_seam (ap (λ (b : Bool). bytes_eq f c.now && b) (rw (append_assoc, place) at next))

pub columns_match : (fields : Record) (columns : List (Bor (List ℕ))) → length fields ≡ length columns
    → list_all (λ p. bytes_eq (field fields p.0) p.1.now) (enumerate_from 0 columns) ≡ same_record fields (named columns)
columns_match fields columns same = match_from [] fields columns same

pub columns_other : (fields : Record) (columns : List (Bor (List ℕ))) → (length fields ≡ length columns → ⊥) → false ≡ same_record fields (named columns)
columns_other fields columns other = sym (false_from_ne_true _ (λ e. other (same_length fields (named columns) e ∙ length_named columns)))

-- if a record comes next, it is the first of the records; if none does, there are no records
pub first_record : (config : Config) (s : State) (xs : List ℕ) (p : Read) (records : List Record)
    → AreRecords config s xs records → next_record config s [] [] xs ≡ Some p
    → (rest : List Record) × (records ≡ p.0 ∷ rest) × AreRecords config p.1 p.2 rest
unfolding Reached
first_record config s xs p [] (t, ys, reached, end) e = absurd (cc (reached.0, reached.1, end, e))
first_record config s xs p (r ∷ rest) (t, ys, reached, end) e =
    let same : reached.0 ≡ p = cc (reached.1, e) in
    let next : Reached config p.1 p.2 rest t ys = subst (λ (q : Read). Reached config q.1 q.2 rest t ys) same reached.3 in
    (rest, cc (reached.2, same), (t, ys, next, end))

pub no_record : (config : Config) (s : State) (xs : List ℕ) (records : List Record)
    → AreRecords config s xs records → next_record config s [] [] xs ≡ None → records ≡ []
unfolding Reached
no_record config s xs [] are e = refl
no_record config s xs (r ∷ rest) (t, ys, reached, end) e = absurd (cc (reached.1, e))

-- the header of a record among headers, by their names
pub find-named : (test : Record → Bool) (headers : List (Bor (List (Bor (List ℕ))))) → find test (map (λ c. named c.now) headers) ≡ option_map (λ c. named c.now) (find (λ c. test (named c.now)) headers)
find-named test [] = refl
find-named test (h ∷ headers) = elim (cases_Bool (test (named h.now))) [
  | inl found ↦ rw found refl
  | inr other ↦ rw other (find-named test headers)
]
