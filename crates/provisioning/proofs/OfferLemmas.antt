-- One record more.
use Rattle.std.proofs.Common.{◌≡◌, ◌≢◌, ◌+◌, ◌<◌, ℕ, Bool, List, [], ◌∷◌, ◌++◌, ◌&&◌, length, take, drop, Option, Result, Ok, Err, refl, ap, sym, ◌∙◌, append_assoc, append-nil, add-one, drop-cons}
use Rattle.std.proofs.Math.ListN.{get_or}
use Rattle.std.proofs.lemmas.List.{take_more}
use Rattle.std.proofs.lemmas.List.Elements.{filter_map-append}
use Rattle.std.proofs.lemmas.List.Folds.{list_all-append}
use Rattle.std.specs.List.{list_all}
use Rattle.std.specs.Result.{result_ok}
use Rattle.scim_key.specs.declared.records.Kind.{Kind}
use Rattle.source_csv.specs.declared.faults.RowFault.{RowFault}
use Rattle.source_csv.specs.declared.rows.Row.{Row}
use Rattle.connector_core.specs.declared.accepting.Verdict.{Verdict}
use Rattle.connector_core.specs.Maps.{BookMap}
use Rattle.connector_core.specs.declared.changing.ChangeFault.{ChangeFault}
use Rattle.provisioning.proofs.ListLemmas.{adds_more}
use Rattle.provisioning.specs.Runs.{IsUntold}
use Rattle.provisioning.specs.Offering.{Hears, Tells, is_taken, judged_of, judged_row, rows_in}
use Rattle.provisioning.specs.declared.faults.RunFault.{RunFault}
use Rattle.provisioning.specs.declared.offering.Judged.{Judged}

abbrev Source : Type 0
Source = Result Row RowFault

abbrev Said : Type 0
Said = Result Verdict ChangeFault

-- ---- lists

-- the rest at a place begins with the element there
pub drop_here : {X : Type 0} (xs : List X) (i : ℕ) (x : X) → i < length xs → x ≡ get_or xs i x → drop i xs ≡ x ∷ drop (i + 1) xs
drop_here xs i x less is = rw (add-one, drop-cons xs i x less, ← is) refl

-- ---- rows

pub rows_next : (records : List Source) (i : ℕ) (found : Source) → i < length records → found ≡ get_or records i found → rows_in (take (i + 1) records) ≡ rows_in (take i records) ++ rows_in (found ∷ [])
rows_next records i found less is = ap rows_in (take_more records i found less ∙ ap (λ (x : Source). take i records ++ x ∷ []) (sym is)) ∙ filter_map-append result_ok (take i records) (found ∷ [])

-- the rows so far, and one more
pub row_next : (records : List Source) (i : ℕ) (found : Source) (row : Row) → i < length records → found ≡ get_or records i found → found ≡ Ok row → rows_in (take (i + 1) records) ≡ rows_in (take i records) ++ row ∷ []
row_next records i found row less is here = rows_next records i found less is ∙ ap (λ (x : Source). rows_in (take i records) ++ rows_in (x ∷ [])) here

-- a record that is no row is passed over
pub none_next : (records : List Source) (i : ℕ) (found : Source) (refusal : RowFault) → i < length records → found ≡ get_or records i found → found ≡ Err refusal → rows_in (take (i + 1) records) ≡ rows_in (take i records)
none_next records i found refusal less is here =
    rows_next records i found less is ∙ ap (λ (x : Source). rows_in (take i records) ++ rows_in (x ∷ [])) here ∙ append-nil (rows_in (take i records))

-- ---- reporting

-- Of these rows, the first were reported, and the remaining ones aren't yet
pub record IsTold (all left : List Judged) (before now : Option (List Judged)) (taken : Bool) : Type 0 where
  pub told : List Judged
  pub all_are : all ≡ told ++ left
  pub hears : Hears before now told
  pub taken_is : taken ≡ list_all is_taken told

-- one more row was reported
pub told_more : (all left rest : List Judged) (judged : Judged) (before mid now : Option (List Judged)) (taken more both : Bool) → left ≡ judged ∷ rest → IsTold all left before mid taken
    → Tells (judged ∷ []) mid now (Ok more) → both ≡ (taken && more) → IsTold all rest before now both
told_more all left rest judged before mid now taken more both left_is so_far one both_is = record {
  told = so_far.told ++ judged ∷ [];
  all_are = so_far.all_are ∙ ap (λ xs. so_far.told ++ xs) left_is ∙ sym (append_assoc so_far.told (judged ∷ []) rest);
  hears = adds_more before mid now so_far.told (judged ∷ []) so_far.hears one.0;
  taken_is = both_is ∙ ap (λ b. b && more) so_far.taken_is ∙ ap (λ b. list_all is_taken so_far.told && b) one.1 ∙ sym (list_all-append is_taken so_far.told (judged ∷ []));
}

not_nil : (told rest : List Judged) (judged : Judged) → told ++ judged ∷ rest ≢ []
not_nil [] rest judged none = absurd (cc none)
not_nil (first ∷ told) rest judged none = absurd (cc none)

-- one row couldn't be reported
pub told_part : (all left rest : List Judged) (judged : Judged) (before mid now : Option (List Judged)) (taken : Bool) (fault : RunFault) → left ≡ judged ∷ rest → IsTold all left before mid taken
    → IsUntold fault → Tells all before now (Err fault)
told_part all left rest judged before mid now taken fault left_is so_far untold =
    (λ none. not_nil so_far.told rest judged (sym (so_far.all_are ∙ ap (λ xs. so_far.told ++ xs) left_is) ∙ none), untold)

-- ---- records

-- the row at this place is the first that is left, with the next verdict
pub left_here : (book : BookMap) (of : Kind) (records : List Source) (i : ℕ) (found : Source) (row : Row) (items rest : List Said) (verdict : Said) → i < length records → found ≡ get_or records i found → found ≡ Ok row
    → items ≡ verdict ∷ rest
    → judged_of book of (i + 1) (drop i records) items ≡ judged_row book of (i + 1) row verdict ∷ judged_of book of (i + 1 + 1) (drop (i + 1) records) rest
left_here book of records i found row items rest verdict less is is_row items_are =
    ap (λ xs. judged_of book of (i + 1) xs items) (drop_here records i found less is) ∙ ap (λ said. judged_of book of (i + 1) (found ∷ drop (i + 1) records) said) items_are
    ∙ ap (λ (x : Source). judged_of book of (i + 1) (x ∷ drop (i + 1) records) (verdict ∷ rest)) is_row
