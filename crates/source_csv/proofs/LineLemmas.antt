-- One more byte, one more field, one more record.
use Rattle.std.proofs.Common.{◌≡◌, ◌==◌, nat_lt, true, false, ℕ, ◌+◌, ◌<◌, List, [], ◌∷◌, ◌++◌, length, drop, max, refl, ap, sym, inl, inr, ◌∙◌, arith, add-one}
use Rattle.std.proofs.lemmas.Bool.{and_parts, cases_Bool}
use Rattle.std.proofs.lemmas.Bool.Decides.{nat_tests}
use Rattle.std.specs.Prelude.{option_to_list}
use Rattle.std.specs.List.{list_all}
use Rattle.source_csv.proofs.FieldLemmas.{drop_field}
use Rattle.source_csv.specs.Columns.{Record, field}
use Rattle.source_csv.specs.Lines.{field_lines, line_ends, multiline_at, multiline_from, record_lines}

-- a field whose bytes all come after those that end a line
pub no_line_end : (text : List ℕ) → list_all (nat_lt 13) text ≡ true → line_ends false text ≡ 0
no_line_end [] h = refl
no_line_end (b ∷ text) h =
    let parts = and_parts (nat_lt 13 b) (list_all (nat_lt 13) text) h in
    let no_return : (b == 13) ≡ false = grind (parts.0, arith, nat_tests) in
    let no_feed : (b == 10) ≡ false = grind (parts.0, arith, nat_tests) in
    rw (no_return, no_feed, no_line_end text parts.1) refl

max_of_three : (a b c : ℕ) → max (max a b) c ≡ max a (max b c)
max_of_three a b c = omega arith

pub one_field_more : (most : ℕ) (fields : Record) (place : ℕ) → place < length fields → max most (record_lines (drop place fields)) ≡ record_lines fields
    → max (max most (field_lines (field fields place))) (record_lines (drop (place + 1) fields)) ≡ record_lines fields
one_field_more most fields place less so_far = rw add-one (max_of_three _ _ _ ∙ ap (λ fs. max most (record_lines fs)) (sym (drop_field fields place less)) ∙ so_far)

-- ---- a file

-- a record that comes next, and those after it
pub multiline_more : (place : ℕ) (fields : Record) (more : List ℕ)
    → multiline_from place (record_lines fields ∷ more) ≡ option_to_list (multiline_at place fields) ++ multiline_from (place + 1) more
multiline_more place fields more = elim (cases_Bool (nat_lt 1 (record_lines fields))) [
  | inl several ↦ rw several refl
  | inr one ↦ rw one refl
]
