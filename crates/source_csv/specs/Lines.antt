-- How many lines the fields of a record have.
use Rattle.std.specs.Prelude.{ℕ, ◌+◌, ◌==◌, Bool, false, not, ◌&&◌, ◌||◌, List, [], ◌∷◌, ◌++◌, map, max, nat_lt, codes, Option, Some, None, if◌then◌else◌}
use Rattle.std.specs.Fmt.{decimal}
use Rattle.source_csv.specs.Columns.{Record}
use Rattle.source_csv.specs.declared.missing_quotes.Multiline.{Multiline}

-- a byte ends a line: a carriage return, or a line feed that doesn't follow one
abbrev pub ends_line : (after_return : Bool) → ℕ → Bool
ends_line after_return byte = byte == 13 || (byte == 10 && not after_return)

abbrev pub one_if : Bool → ℕ
one_if b = if b then 1 else 0

-- how many line ends a text has
abbrev pub line_ends : (after_return : Bool) → List ℕ → ℕ
line_ends after_return [] = 0
line_ends after_return (byte ∷ text) = one_if (ends_line after_return byte) + line_ends (byte == 13) text

abbrev pub field_lines : List ℕ → ℕ
field_lines field = 1 + line_ends false field

-- how many lines the longest field of a record has
abbrev pub record_lines : Record → ℕ
record_lines [] = 0
record_lines (field ∷ fields) = max (field_lines field) (record_lines fields)

-- the record at this place, if its longest field has more than one line
abbrev pub multiline_at : (place : ℕ) → Record → Option Multiline
multiline_at place fields =
    if nat_lt 1 (record_lines fields) then Some (record { place = place; lines = record_lines fields }) else None

-- ---- a file

-- for each record after the header
abbrev pub lines_after_header : List Record → List ℕ
lines_after_header [] = []
lines_after_header (header ∷ records) = map record_lines records

-- the records whose longest fields have more than one of these lines, counted from this place on
abbrev pub multiline_from : (place : ℕ) → List ℕ → List Multiline
multiline_from place [] = []
multiline_from place (lines ∷ more) =
    if nat_lt 1 lines then record { place = place; lines = lines } ∷ multiline_from (place + 1) more
    else multiline_from (place + 1) more

-- the records of a file with a field over several lines
abbrev pub multiline_of : List Record → List Multiline
multiline_of records = multiline_from 1 (lines_after_header records)

-- ---- what is reported

abbrev pub multiline_text : Multiline → Option (List ℕ)
multiline_text found =
    Some (codes "record " ++ (decimal found.place
    ++ (codes ": a quoted field goes over " ++ (decimal found.lines ++ codes " lines; is a quote missing?"))))
