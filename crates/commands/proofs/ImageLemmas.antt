-- What a step of `map` adds to what was printed.
use Rattle.std.proofs.Common.{◌≡◌, ℕ, ◌+◌, List, [], ◌∷◌, ◌++◌, Bool, true, false, ◌&&◌, Option, Some, None, Result, refl, ap, sym, append_assoc, ◌∙◌}
use Rattle.std.proofs.KnownBytes.{Appends-kept, Appends-nil, Appends-trans}
use Rattle.std.proofs.lemmas.Grind.{flat_map-append}
use Rattle.std.proofs.lemmas.List.{append-nil}
use Rattle.std.proofs.lemmas.List.Folds.{list_all-append}
use Rattle.std.specs.Prelude.{is_ok}
use Rattle.std.specs.Io.KnownBytes.{Appends, Keeps}
use Rattle.mapping.specs.Lines.{lines_of, record_line}
use Rattle.scim_key.specs.declared.records.Kind.{Kind}
use Rattle.source_csv.proofs.StreamLemmas.{takes_one}
use Rattle.source_csv.specs.Fields.{Record}
use Rattle.source_csv.specs.Files.{at_place, read_row, rows_from}
use Rattle.source_csv.specs.Streams.{HasLeft, Standing, Takes, last_row, place_after, rows_next}
use Rattle.source_csv.specs.declared.columns.Columns.{Columns}
use Rattle.source_csv.specs.declared.faults.RowFault.{RowFault}
use Rattle.source_csv.specs.declared.rows.Row.{Row}
use Rattle.commands.specs.Images.{Prints, PrintsNext}
use Rattle.commands.specs.Statuses.{are_rows, status_of_rows}
use Rattle.commands.specs.declared.status.Status.{Status}

-- the row of the first record, and the rows after it
next_rows : (k k1 k2 : Kind) (cs cs1 cs2 : Columns) (n n1 n2 : ℕ) (fields : Record) (rest records : List Record) (row : Result Row RowFault)
    → k1 ≡ k → k2 ≡ k1 → cs1 ≡ cs → cs2 ≡ cs1 → n1 ≡ n + 1 → n2 ≡ n1 → row ≡ at_place n1 (read_row k1 cs1 fields) → records ≡ fields ∷ rest
    → rows_from k cs (n + 1) records ≡ row ∷ rows_from k2 cs2 (n2 + 1) rest
next_rows k k1 k2 cs cs1 cs2 n n1 n2 fields rest records row a b c d e f is first = rw (is, first, b, a, d, c, f, e) refl

left_too : (a b : Standing) (records : List Record) → b.config ≡ a.config → b.remaining ≡ a.remaining → b.state ≡ a.state → HasLeft a records → HasLeft b records
left_too a b records grammar same state left = rw (grammar, same, state) left

pub took : (old mid new : Standing) (found : Bool) (row : Result Row RowFault) (records : List Record)
    → found ≡ true → mid.kind ≡ old.kind → mid.columns ≡ old.columns → mid.place ≡ place_after found old.place → new ≡ record mid { fields = new.fields } → row ≡ last_row mid
    → Takes found mid.fields mid.config mid.remaining mid.state records
    → (rest : List Record) × HasLeft new rest × (rows_next old records ≡ row ∷ rows_next new rest)
took old mid new found row records one kind columns step same is taken =
    let (rest, first, left) = takes_one found mid.fields mid.config mid.remaining mid.state records one taken in
    let place : mid.place ≡ old.place + 1 = rw one at step in (
      rest,
      left_too mid new rest (ap (λ (s : Standing). s.config) same) (ap (λ (s : Standing). s.remaining) same) (ap (λ (s : Standing). s.state) same) left,
      next_rows old.kind mid.kind new.kind old.columns mid.columns new.columns old.place mid.place new.place mid.fields rest records row kind (ap (λ (s : Standing). s.kind) same) columns (ap (λ (s : Standing). s.columns) same) place (ap (λ (s : Standing). s.place) same) is first,
    )

-- the lines of these rows and rejected records are printed, and the others are left
abbrev pub IsPrinting : (start now : Standing) → (before after : Option (List ℕ)) → Bool → Type 0
IsPrinting start now before after so_far = (given : List (Result Row RowFault)) × Appends before after (lines_of given) × (so_far ≡ are_rows given)
    × ((records : List Record) → HasLeft start records → (rest : List Record) × HasLeft now rest × (rows_next start records ≡ given ++ rows_next now rest))

pub at_start : (rows : Standing) (bytes : Option (List ℕ)) → IsPrinting rows rows bytes bytes true
at_start rows bytes = ([], Appends-nil bytes, refl, λ records left. (records, left, refl))

and_true : (b : Bool) → (b && true) ≡ b
and_true true = refl
and_true false = refl

lines_more : (given : List (Result Row RowFault)) (row : Result Row RowFault) → lines_of (given ++ row ∷ []) ≡ lines_of given ++ record_line row
lines_more given row = flat_map-append record_line given (row ∷ []) ∙ ap (λ (l : List ℕ). lines_of given ++ l) (append-nil (record_line row))

rows_more : (given : List (Result Row RowFault)) (row : Result Row RowFault) → are_rows (given ++ row ∷ []) ≡ (are_rows given && is_ok row)
rows_more given row = list_all-append is_ok given (row ∷ []) ∙ ap (λ (b : Bool). are_rows given && b) (and_true (is_ok row))

pub one_more : (start now next : Standing) (before after last : Option (List ℕ)) (so_far is_row : Bool) (found : Option Bool)
    → IsPrinting start now before after so_far → found ≡ Some is_row → PrintsNext now next after last found → IsPrinting start next before last (so_far && is_row)
one_more start now next before after last so_far is_row found printing one prints =
    let (given, lines, are, all) = printing in
    let printed : PrintsNext now next after last (Some is_row) = rw one at prints in
    let (row, is, line, more) = printed in (
      given ++ row ∷ [],
      rw (lines_more given row) (Appends-trans before after last (lines_of given) (record_line row) lines line),
      rw (rows_more given row, are, is) refl,
      λ records left.
          let (rest, left_now, same) = all records left in
          let (others, left_next, other) = more rest left_now in
          (others, left_next, same ∙ ap (λ (l : List (Result Row RowFault)). given ++ l) other ∙ sym (append_assoc given (row ∷ []) (rows_next next others))),
    )

-- whether each record was a row, after one more
pub flag_then : (so_far is_row now : Bool) → so_far ≡ true → now ≡ is_row → now ≡ (so_far && is_row)
flag_then so_far is_row now e is = rw (e, is) refl

pub flag_else : (so_far is_row now : Bool) → so_far ≡ false → now ≡ so_far → now ≡ (so_far && is_row)
flag_else so_far is_row now e is = rw (is, e) refl

pub ended : (start now next : Standing) (before after printed last : Option (List ℕ)) (so_far : Bool) (found : Option Bool) (status : Status)
    → IsPrinting start now before after so_far → found ≡ None → PrintsNext now next after printed found → Keeps printed last → status ≡ status_of_rows so_far → Prints start before last status
ended start now next before after printed last so_far found status printing none prints kept is =
    let (given, lines, are, all) = printing in
    let end : PrintsNext now next after printed None = rw none at prints in
    let (same_lines, no_record) = end in (
      given,
      Appends-kept before after last (lines_of given) lines (rw same_lines at kept),
      is ∙ ap status_of_rows are,
      λ records left.
          let (rest, left_now, same) = all records left in
          sym (same ∙ rw (no_record rest left_now) (append-nil given)),
    )
