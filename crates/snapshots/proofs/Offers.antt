-- Each row that is offered for a snapshot: whose it is, and that it goes on from the wanted row.
use Rattle.std.proofs.Common.{◌≡◌, ℕ, ◌+◌, ◌<◌, ◌≤◌, ◌==◌, ◌&&◌, true, false, List, [], ◌∷◌, ◌++◌, length, nat_lt, Option, Some, None, IsSome, Result, Ok, Err, option_to_list, refl, ap, sym, subst, ◌∙◌, inl, inr, arith, if◌then◌else◌}
use Rattle.std.proofs.lemmas.Bool.{and_parts, cases_Bool, lt-ltb}
use Rattle.std.proofs.lemmas.List.Sums.{sum_by-cons}
use Rattle.std.specs.List.{AllByRecursion}
use Rattle.std.specs.Option.{option_map}
use Rattle.scim_key.proofs.RecordLaws.{same as same_names}
use Rattle.scim_key.proofs.RevisionLaws.{nexts_follow}
use Rattle.scim_key.specs.Records.{same_kind}
use Rattle.scim_key.specs.Revisions.{RevisionValue, next_revision, ◌≺◌}
use Rattle.scim_key.specs.declared.records.Kind.{Kind}
use Rattle.scim_key.specs.declared.records.RecordName.{RecordName}
use Rattle.source_csv.specs.Files.{at_place}
use Rattle.source_csv.specs.Records.{at_revision, row_name, row_revision, says_the_same}
use Rattle.source_csv.specs.declared.faults.RowCode.{RowCode}
use Rattle.source_csv.specs.declared.faults.RowFault.{RowFault}
use Rattle.source_csv.specs.declared.rows.Row.{Row}
use Rattle.source_csv.specs.declared.rows.Row.TheVariants.{User, Group}
use Rattle.snapshots.specs.Laws.{AreNamed, GoesOn, NobodyIsWithdrawnIfUnsure, RevisionsRise, rows_in}
use Rattle.snapshots.specs.Snapshots.{Said, Wanted, absent_if_sure, absent_row, if_in_force, is_called, is_in_force, is_repeated, mentions_in, name_in, numbered, numbered_absent, numbered_file, numbered_record, numbered_row, numbered_withdrawn, row_after, row_at, unsure, withdrawn}
use Rattle.snapshots.specs.declared.doubts.Unsure.{Unsure}

abbrev pub Offered : Type 0
Offered = Result Row RowFault

-- ---- equal results

pub ok_of : (a b : Row) → ◌≡◌ {A = Result Row RowFault} (Ok a) (Ok b) → a ≡ b
ok_of a b e = cc

pub ok_row : (a b : Row) → ◌≡◌ {A = Result Row RowCode} (Ok a) (Ok b) → a ≡ b
ok_row a b e = cc

pub some_row : (a b : Row) → Some a ≡ Some b → a ≡ b
some_row a b e = cc

pub placed : (place : ℕ) (r : Result Row RowCode) (row : Row) → at_place place r ≡ Ok row → r ≡ Ok row
placed place (Ok made) row e = ap Ok (ok_of made row e)
placed place (Err code) row e = absurd (cc)

-- ---- the names of rows

pub name_at : (revision : RevisionValue) (row : Row) → row_name (at_revision revision row) ≡ row_name row
name_at revision (User row) = refl
name_at revision (Group row) = refl

pub revision_at : (revision : RevisionValue) (row : Row) → row_revision (at_revision revision row) ≡ revision
revision_at revision (User row) = refl
revision_at revision (Group row) = refl

pub name_withdrawn : (row : Row) → row_name (withdrawn row) ≡ row_name row
name_withdrawn (User row) = refl
name_withdrawn (Group row) = refl

-- ---- the row after the wanted one

row_next : (held row made : Row) (next : Option RevisionValue) → next_revision (row_revision held) ≡ next
    → row_at next row ≡ Ok made
    → (row_revision held ≺ row_revision made) × (row_name made ≡ row_name row)
row_next held row made None is e = absurd (cc)
row_next held row made (Some revision) is e =
    let same : at_revision revision row ≡ made = ok_row (at_revision revision row) made e in
    let up : row_revision held ≺ row_revision (at_revision revision row) = rw (revision_at revision row)
    (nexts_follow.next (row_revision held) revision is).rises in
    (subst (λ r. row_revision held ≺ row_revision r) same up, ap row_name (sym same) ∙ name_at revision row)

pub goes_after : (held row made : Row) → row_after held row ≡ Ok made → (row_revision held ≺ row_revision made)
    × (row_name made ≡ row_name row)
goes_after held row made e = row_next held row made (next_revision (row_revision held)) refl e

-- ---- a row of the file

abbrev GoesOnFrom : Wanted → Row → Type 0
GoesOnFrom wanted row = GoesOn (wanted (row_name row)) row

file_row : (wanted : Wanted) (held : Option Row) (row made : Row) → AreNamed wanted → wanted (row_name row) ≡ held
    → numbered_row held row ≡ Ok made
    → GoesOnFrom wanted made × (row_name made ≡ row_name row)
file_row wanted None row made named is e =
    let same : row ≡ made = ok_row row made e in
    let here : GoesOnFrom wanted row = subst (λ h. GoesOn h row) (sym is) tt in
    (subst (GoesOnFrom wanted) same here, ap row_name (sym same))
file_row wanted (Some held) row made named is e = elim (cases_Bool (says_the_same row held)) [
  | inl alike ↦
      let same : held ≡ made = ok_row held made (rw alike at e) in
      let name : row_name held ≡ row_name row = named (row_name row) held is in
      let there : wanted (row_name held) ≡ Some held = ap wanted name ∙ is in
      let here : GoesOnFrom wanted held = subst (λ h. GoesOn h held) (sym there) (inl refl) in
      (subst (GoesOnFrom wanted) same here, ap row_name (sym same) ∙ name)
  | inr not ↦
      let next : row_after held row ≡ Ok made = rw not at e in
      let its = goes_after held row made next in
      let there : wanted (row_name made) ≡ Some held = ap wanted its.1 ∙ is in
      (subst (λ h. GoesOn h made) (sym there) (inr its.0), its.1)
]

-- what is offered for a record is of the record, and no other record has its name
pub record_row : (wanted : Wanted) (mentions : RecordName → ℕ) (place : ℕ) (said : Said) (made : Row) → AreNamed wanted
    → numbered_record wanted mentions place said ≡ Ok made
    → GoesOnFrom wanted made × (name_in said ≡ Some (row_name made)) × (is_repeated mentions (name_in said) ≡ false)
record_row wanted mentions place (Err rejected) made named e = elim (cases_Bool (is_repeated mentions rejected.name)) [
  | inl twice ↦ let fault = rw twice at e in absurd (cc)
  | inr once ↦ let fault = rw once at e in absurd (cc)
]
record_row wanted mentions place (Ok row) made named e =
    elim (cases_Bool (is_repeated mentions (Some (row_name row)))) [
      | inl twice ↦ let fault = rw twice at e in absurd (cc)
      | inr once ↦
          let alone : at_place place (numbered_row (wanted (row_name row)) row) ≡ Ok made = rw once at e in
          let its = file_row wanted (wanted (row_name row)) row made named refl (placed place _ made alone) in
          (its.0, ap Some (sym its.1), once)
    ]

-- ---- an absent record

pub in_force : (held : Option Row) (row : Row) → if_in_force held ≡ Some row → (held ≡ Some row)
    × (is_in_force row ≡ true)
in_force None row e = absurd (cc)
in_force (Some held) row e = elim (cases_Bool (is_in_force held)) [
  | inl passes ↦ let same : held ≡ row = some_row held row (rw passes at e) in
      (ap Some same, subst (λ r. is_in_force r ≡ true) same passes)
  | inr fails ↦ let none = rw fails at e in absurd (cc)
]

pub absent_is : (wanted : Wanted) (mentions : RecordName → ℕ) (of : Kind) (name : RecordName) (held : Row)
    → absent_row wanted mentions of name ≡ Some held
    → (wanted name ≡ Some held) × (is_in_force held ≡ true) × (same_kind name.kind of ≡ true)
    × ((mentions name == 0) ≡ true)
absent_is wanted mentions of name held e = elim (cases_Bool (same_kind name.kind of && (mentions name == 0))) [
  | inl passes ↦
      let its = in_force (wanted name) held (rw passes at e) in
      let tests = and_parts (same_kind name.kind of) (mentions name == 0) passes in
      (its.0, its.1, tests.0, tests.1)
  | inr fails ↦ let none = rw fails at e in absurd (cc)
]

pub withdrawn_row : (wanted : Wanted) (name : RecordName) (place : ℕ) (held made : Row) → AreNamed wanted
    → wanted name ≡ Some held → numbered_withdrawn place held ≡ Ok made
    → GoesOnFrom wanted made × (row_name made ≡ name)
withdrawn_row wanted name place held made named is e =
    let its = goes_after held (withdrawn held) made (placed place _ made e) in
    let name_is : row_name made ≡ name = its.1 ∙ name_withdrawn held ∙ named name held is in
    let there : wanted (row_name made) ≡ Some held = ap wanted name_is ∙ is in
    (subst (λ h. GoesOn h made) (sym there) (inr its.0), name_is)

-- ---- all rows

module _ (P : Row → Type 0) where
  pub one : (r : Offered) (rest : List Offered) → ((row : Row) → r ≡ Ok row → P row) → AllByRecursion P (rows_in rest)
      → AllByRecursion P (rows_in (r ∷ rest))
  one (Ok row) rest each all = (each row refl, all)
  one (Err fault) rest each all = all

  pub all_file : (wanted : Wanted) (mentions : RecordName → ℕ) (place : ℕ) (records : List Said)
      → ((at : ℕ) (said : Said) (row : Row) → numbered_record wanted mentions at said ≡ Ok row → P row)
      → AllByRecursion P (rows_in (numbered_file wanted mentions place records))
  all_file wanted mentions place [] each = tt
  all_file wanted mentions place (said ∷ records) each =
      one (numbered_record wanted mentions place said) (numbered_file wanted mentions (place + 1) records)
      (each place said)
      (all_file wanted mentions (place + 1) records each)

  if_absent : (place : ℕ) (held : Option Row) (rest : List Offered)
      → ((row made : Row) → held ≡ Some row → numbered_withdrawn place row ≡ Ok made → P made)
      → AllByRecursion P (rows_in rest)
      → AllByRecursion P (rows_in (option_to_list (option_map (numbered_withdrawn place) held) ++ rest))
  if_absent place None rest each all = all
  if_absent place (Some row) rest each all = one (numbered_withdrawn place row) rest (λ made. each row made refl) all

  pub all_absent : (wanted : Wanted) (mentions : RecordName → ℕ) (of : Kind) (place : ℕ) (names : List RecordName)
      → ((name : RecordName) (held made : Row) → absent_row wanted mentions of name ≡ Some held
      → numbered_withdrawn place held ≡ Ok made → P made)
      → AllByRecursion P (rows_in (numbered_absent wanted mentions of place names))
  all_absent wanted mentions of place [] each = tt
  all_absent wanted mentions of place (name ∷ names) each =
      if_absent place (absent_row wanted mentions of name) (numbered_absent wanted mentions of place names) (each name)
      (all_absent wanted mentions of place names each)

  pub all_both : (xs ys : List Offered) → AllByRecursion P (rows_in xs) → AllByRecursion P (rows_in ys)
      → AllByRecursion P (rows_in (xs ++ ys))
  all_both [] ys first second = second
  all_both (Ok row ∷ xs) ys first second = (first.0, all_both xs ys first.1 second)
  all_both (Err fault ∷ xs) ys first second = all_both xs ys first second

  pub all_if_sure : (why : Option Unsure) (rows : List Offered) → AllByRecursion P (rows_in rows)
      → AllByRecursion P (rows_in (absent_if_sure why rows))
  all_if_sure None rows all = all
  all_if_sure (Some why) rows all = tt

pub revisions_rise : RevisionsRise
unfolding numbered
revisions_rise wanted names of records is_closed named =
    all_both (GoesOnFrom wanted) (numbered_file wanted (mentions_in records) 1 records) _
    (all_file (GoesOnFrom wanted) wanted (mentions_in records) 1 records
    (λ at said row e. (record_row wanted (mentions_in records) at said row named e).0))
    (all_if_sure (GoesOnFrom wanted) (unsure is_closed records) _
    (all_absent (GoesOnFrom wanted) wanted (mentions_in records) of (length records + 1) names
    (λ name held made is e. (withdrawn_row wanted name (length records + 1) held made named
    (absent_is wanted (mentions_in records) of name held is).0 e).0)))

-- ---- whose rows these are

pub more_mentions : (said : Said) (records : List Said) (name : RecordName) → mentions_in (said ∷ records) name
    ≡ (if is_called name (name_in said) then 1 else 0) + mentions_in records name
more_mentions said records name = sum_by-cons (λ (s : Said). if is_called name (name_in s) then 1 else 0) said records

is_called_so : (name : RecordName) (said : Said) → name_in said ≡ Some name → is_called name (name_in said) ≡ true
is_called_so name said is = ap (is_called name) is ∙ (same_names name name).1 refl

pub weaker : (P Q : Row → Type 0) → ((row : Row) → P row → Q row) → (rows : List Row) → AllByRecursion P rows
    → AllByRecursion Q rows
weaker P Q step [] all = tt
weaker P Q step (row ∷ rows) all = (step row all.0, weaker P Q step rows all.1)

abbrev pub Mentioned : List Said → Row → Type 0
Mentioned records row = 0 < mentions_in records (row_name row)

pub more_here : (said : Said) (records : List Said) (name : RecordName) → name_in said ≡ Some name
    → mentions_in (said ∷ records) name ≡ 1 + mentions_in records name
more_here said records name is = more_mentions said records name ∙ rw (is_called_so name said is) refl

pub more_there : (said : Said) (records : List Said) (name : RecordName) → mentions_in records name ≤ mentions_in
    (said ∷ records) name
more_there said records name = let more = more_mentions said records name in omega (arith, more)

-- a row of the file is of one of its records
pub mentioned : (wanted : Wanted) (mentions : RecordName → ℕ) (place : ℕ) (records : List Said) → AreNamed wanted
    → AllByRecursion (Mentioned records) (rows_in (numbered_file wanted mentions place records))
mentioned wanted mentions place [] named = tt
mentioned wanted mentions place (said ∷ records) named =
    one (Mentioned (said ∷ records)) (numbered_record wanted mentions place said)
    (numbered_file wanted mentions (place + 1) records)
    (λ row e. let more = more_here said records (row_name row)
    (record_row wanted mentions place said row named e).1 in omega (arith, more))
    (weaker (Mentioned records) (Mentioned (said ∷ records))
    (λ row some. let more = more_there said records (row_name row) in omega (arith, some, more))
    (rows_in (numbered_file wanted mentions (place + 1) records)) (mentioned wanted mentions (place + 1) records named))

file_only : (P : Row → Type 0) (why : Option Unsure) (file rows : List Offered) → IsSome why
    → AllByRecursion P (rows_in file)
    → AllByRecursion P (rows_in (file ++ absent_if_sure why rows))
file_only P None file rows some all = absurd (cc)
file_only P (Some why) file rows some all = all_both P file [] all tt

pub only_the_file : NobodyIsWithdrawnIfUnsure
unfolding numbered
only_the_file wanted names of records is_closed named why =
    let file = numbered_file wanted (mentions_in records) 1 records in
    file_only (λ row. nat_lt 0 (mentions_in records (row_name row)) ≡ true) (unsure is_closed records) file _ why
    (weaker (Mentioned records) (λ row. nat_lt 0 (mentions_in records (row_name row)) ≡ true)
    (λ row some. lt-ltb 0 (mentions_in records (row_name row)) some) (rows_in file)
    (mentioned wanted (mentions_in records) 1 records named))
