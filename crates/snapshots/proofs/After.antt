-- What the source wants of each record after the rows that are offered for a snapshot.
use Rattle.std.proofs.Common.{◌≡◌, ◌⊎◌, ℕ, ◌+◌, ◌<◌, ◌≤◌, ◌||◌, Bool, true, false, List, [], ◌∷◌, ◌++◌, Option, Some, None, Result, Ok, Err, option_to_list, refl, ap, sym, subst, ◌∙◌, inl, inr, arith, if◌then◌else◌}
use Rattle.std.proofs.lemmas.Bool.{cases_Bool, false_from_ne_true, ltb-false}
use Rattle.std.specs.List.{AllByRecursion, list_any}
use Rattle.std.specs.Option.{option_map, option_or}
use Rattle.std.specs.Result.{result_ok}
use Rattle.scim_key.proofs.RecordLaws.{same as same_names}
use Rattle.scim_key.specs.Records.{same_name}
use Rattle.scim_key.specs.declared.records.Kind.{Kind}
use Rattle.scim_key.specs.declared.records.RecordName.{RecordName}
use Rattle.source_csv.specs.Files.{at_place}
use Rattle.source_csv.specs.Records.{row_name}
use Rattle.source_csv.specs.declared.faults.RowCode.{RowCode}
use Rattle.source_csv.specs.declared.faults.RowFault.{RowFault}
use Rattle.source_csv.specs.declared.rows.Row.{Row}
use Rattle.snapshots.proofs.Offers.{Mentioned, Offered, absent_is, all_absent, mentioned, more_here, more_there, ok_of, placed, record_row, some_row, weaker, withdrawn_row}
use Rattle.snapshots.specs.Laws.{AreNamed, rows_in}
use Rattle.snapshots.specs.Snapshots.{Said, Wanted, absent_row, is_repeated, mentions_in, name_in, numbered_absent, numbered_file, numbered_record, numbered_row, numbered_withdrawn}

-- ---- the wanted rows after rows

-- the wanted rows after this row
abbrev pub wanting_row : Wanted → Row → Wanted
wanting_row wanted row name = if same_name (row_name row) name then Some row else wanted name

-- the wanted rows after these rows
abbrev pub wanted_after : Wanted → List Row → Wanted
wanted_after wanted [] = wanted
wanted_after wanted (row ∷ rows) = wanted_after (wanting_row wanted row) rows

pub after_both : (now : Wanted) (xs ys : List Offered) (name : RecordName)
    → wanted_after now (rows_in (xs ++ ys)) name ≡ wanted_after (wanted_after now (rows_in xs)) (rows_in ys) name
after_both now [] ys name = refl
after_both now (Ok row ∷ xs) ys name = after_both (wanting_row now row) xs ys name
after_both now (Err fault ∷ xs) ys name = after_both now xs ys name

abbrev pub Apart : RecordName → Row → Type 0
Apart name row = same_name (row_name row) name ≡ false

pub untouched : (now : Wanted) (rows : List Row) (name : RecordName) → AllByRecursion (Apart name) rows
    → wanted_after now rows name ≡ now name
untouched now [] name all = refl
untouched now (row ∷ rows) name all = untouched (wanting_row now row) rows name all.1 ∙ rw all.0 refl

apart : (name : RecordName) (row : Row) → (row_name row ≡ name → ⊥) → Apart name row
apart name row differ = false_from_ne_true _ (λ is. differ ((same_names (row_name row) name).0 is))

-- the wanted row of a record is the one from before, or one of the rows
abbrev pub Came : (Row → Type 0) → Wanted → List Row → RecordName → Type 0
Came P now rows name = (wanted_after now rows name ≡ now name)
    ⊎ ((row : Row) × (wanted_after now rows name ≡ Some row) × P row × (row_name row ≡ name))

came_first : (P : Row → Type 0) (now : Wanted) (row : Row) (rows : List Row) (name : RecordName) → P row
    → Came P (wanting_row now row) rows name → Came P now (row ∷ rows) name
came_first P now row rows name holds (inr it) = inr it
came_first P now row rows name holds (inl same) = elim (cases_Bool (same_name (row_name row) name)) [
  | inl e ↦ inr (row, same ∙ rw e refl, holds, (same_names (row_name row) name).0 e)
  | inr e ↦ inl (same ∙ rw e refl)
]

pub came : (P : Row → Type 0) (now : Wanted) (rows : List Row) (name : RecordName) → AllByRecursion P rows
    → Came P now rows name
came P now [] name all = inl refl
came P now (row ∷ rows) name all = came_first P now row rows name all.0 (came P (wanting_row now row) rows name all.1)

pub named_with : (now : Wanted) (row : Row) → AreNamed now → AreNamed (wanting_row now row)
named_with now row named name held is = elim (cases_Bool (same_name (row_name row) name)) [
  | inl e ↦ let same : row ≡ held = some_row row held (rw e at is) in ap row_name (sym same)
      ∙ (same_names (row_name row) name).0 e
  | inr e ↦ named name held (rw e at is)
]

pub named_after : (now : Wanted) (rows : List Row) → AreNamed now → AreNamed (wanted_after now rows)
named_after now [] named = named
named_after now (row ∷ rows) named = named_after (wanting_row now row) rows (named_with now row named)

-- ---- after the records of the file

pub unmentioned : (wanted : Wanted) (mentions : RecordName → ℕ) (place : ℕ) (records : List Said) (now : Wanted)
    (name : RecordName) → AreNamed wanted
    → mentions_in records name ≡ 0 → wanted_after now (rows_in (numbered_file wanted mentions place records)) name
    ≡ now name
unmentioned wanted mentions place records now name named none =
    let file = rows_in (numbered_file wanted mentions place records) in
    untouched now file name (weaker (Mentioned records) (Apart name)
    (λ row some. apart name row (λ is. let here : 0 < mentions_in records name =
    subst (λ n. 0 < mentions_in records n) is some in omega (arith, here, none)))
    file (mentioned wanted mentions place records named))

-- what a record wants after this row of the file: what is offered for it, or else what it wanted
abbrev pub settled : Option Row → Row → Option Row
settled held row = option_or (result_ok (numbered_row held row)) held

abbrev pub Settled : Wanted → (mentions : RecordName → ℕ) → (later : Wanted) → Said → Type 0
Settled wanted mentions later (Ok row) = is_repeated mentions (Some (row_name row)) ≡ false → later (row_name row)
    ≡ settled (wanted (row_name row)) row
Settled wanted mentions later (Err rejected) = Unit {0}

some_name : (a b : RecordName) → Some a ≡ Some b → a ≡ b
some_name a b e = cc

alone_once : (mentions : RecordName → ℕ) (records : List Said) (row : Row)
    → mentions_in (Ok row ∷ records) (row_name row) ≤ mentions (row_name row)
    → is_repeated mentions (Some (row_name row)) ≡ false → mentions_in records (row_name row) ≡ 0
alone_once mentions records row most once =
    let few : mentions (row_name row) ≤ 1 = ltb-false 1 (mentions (row_name row)) once in
    let more = more_here (Ok row) records (row_name row) refl in
    omega (arith, few, more, most)

settled_made : (wanted : Wanted) (mentions : RecordName → ℕ) (place : ℕ) (said : Said) (records : List Said)
    (now later : Wanted) (made : Row) → AreNamed wanted
    → ((name : RecordName) → mentions_in (said ∷ records) name ≤ mentions name)
    → numbered_record wanted mentions place said ≡ Ok made
    → ((name : RecordName) → mentions_in records name ≡ 0 → later name ≡ wanting_row now made name)
    → Settled wanted mentions later said
settled_made wanted mentions place (Err rejected) records now later made named most is stays = tt
settled_made wanted mentions place (Ok row) records now later made named most is stays = λ once.
    let alone : at_place place (numbered_row (wanted (row_name row)) row) ≡ Ok made = rw once at is in
    let fits : numbered_row (wanted (row_name row)) row
    ≡ Ok made = placed place (numbered_row (wanted (row_name row)) row) made alone in
    let name : row_name row ≡ row_name made = some_name (row_name row) (row_name made)
    (record_row wanted mentions place (Ok row) made named is).1 in
    let none : mentions_in records (row_name row) ≡ 0 = alone_once mentions records row (most (row_name row)) once in
    let here : same_name (row_name made) (row_name row) ≡ true = (same_names (row_name made) (row_name row)).1
    (sym name) in
    let there : wanting_row now made (row_name row) ≡ Some made = rw here refl in
    stays (row_name row) none ∙ there ∙ sym (ap (λ r. option_or (result_ok r) (wanted (row_name row))) fits)

placed_fault : (place : ℕ) (r : Result Row RowCode) (fault : RowFault) → at_place place r ≡ Err fault → result_ok r
    ≡ None
placed_fault place (Ok row) fault e = absurd (cc)
placed_fault place (Err code) fault e = refl

settled_fault : (wanted : Wanted) (mentions : RecordName → ℕ) (place : ℕ) (said : Said) (records : List Said)
    (now later : Wanted) (fault : RowFault)
    → ((name : RecordName) → mentions_in (said ∷ records) name ≤ mentions name)
    → numbered_record wanted mentions place said ≡ Err fault
    → ((name : RecordName) → mentions_in records name ≡ 0 → later name ≡ now name)
    → ((name : RecordName) → 0 < mentions_in (said ∷ records) name → is_repeated mentions (Some name) ≡ false
    → now name ≡ wanted name)
    → Settled wanted mentions later said
settled_fault wanted mentions place (Err rejected) records now later fault most is stays fresh = tt
settled_fault wanted mentions place (Ok row) records now later fault most is stays fresh = λ once.
    let alone : at_place place (numbered_row (wanted (row_name row)) row) ≡ Err fault = rw once at is in
    let nothing : result_ok (numbered_row (wanted (row_name row)) row)
    ≡ None = placed_fault place (numbered_row (wanted (row_name row)) row) fault alone in
    let none : mentions_in records (row_name row) ≡ 0 = alone_once mentions records row (most (row_name row)) once in
    let more = more_here (Ok row) records (row_name row) refl in
    let some : 0 < mentions_in (Ok row ∷ records) (row_name row) = omega (arith, more) in
    stays (row_name row) none ∙ fresh (row_name row) some once
    ∙ sym (ap (λ o. option_or o (wanted (row_name row))) nothing)

-- whose name is mentioned again after this record, is repeated
fresh_still : (wanted : Wanted) (mentions : RecordName → ℕ) (said : Said) (records : List Said) (now : Wanted)
    (made : Row) → name_in said ≡ Some (row_name made)
    → ((name : RecordName) → mentions_in (said ∷ records) name ≤ mentions name)
    → ((name : RecordName) → 0 < mentions_in (said ∷ records) name → is_repeated mentions (Some name) ≡ false
    → now name ≡ wanted name)
    → (name : RecordName) → 0 < mentions_in records name → is_repeated mentions (Some name) ≡ false
    → wanting_row now made name ≡ wanted name
fresh_still wanted mentions said records now made is most fresh name some once =
    elim (cases_Bool (same_name (row_name made) name)) [
      | inl e ↦
          let same : row_name made ≡ name = (same_names (row_name made) name).0 e in
          let more : mentions_in (said ∷ records) name ≡ 1 + mentions_in records name = more_here said records name
          (is ∙ ap Some same) in
          let few : mentions name ≤ 1 = ltb-false 1 (mentions name) once in
          let bound = most name in
          absurd (omega (arith, some, more, few, bound))
      | inr e ↦
          let more = more_there said records name in
          let still : 0 < mentions_in (said ∷ records) name = omega (arith, some, more) in
          rw e (fresh name still once)
    ]

settles_from : (wanted : Wanted) (mentions : RecordName → ℕ) (place : ℕ) (said : Said) (records : List Said)
    (now : Wanted) → AreNamed wanted
    → ((name : RecordName) → mentions_in (said ∷ records) name ≤ mentions name)
    → ((name : RecordName) → 0 < mentions_in (said ∷ records) name → is_repeated mentions (Some name) ≡ false
    → now name ≡ wanted name)
    → ((next : Wanted) → ((name : RecordName) → 0 < mentions_in records name → is_repeated mentions (Some name)
    ≡ false → next name ≡ wanted name)
    → AllByRecursion (Settled wanted mentions
    (wanted_after next (rows_in (numbered_file wanted mentions (place + 1) records)))) records)
    → (r : Offered) → numbered_record wanted mentions place said ≡ r
    → AllByRecursion (Settled wanted mentions
    (wanted_after now (rows_in (r ∷ numbered_file wanted mentions (place + 1) records)))) (said ∷ records)
settles_from wanted mentions place said records now named most fresh later (Ok made) is = (
  settled_made wanted mentions place said records now
      (wanted_after (wanting_row now made) (rows_in (numbered_file wanted mentions (place + 1) records))) made named
      most is
      (λ name none. unmentioned wanted mentions (place + 1) records (wanting_row now made) name named none),
  later (wanting_row now made) (fresh_still wanted mentions said records now made
      (record_row wanted mentions place said made named is).1 most fresh),
)
settles_from wanted mentions place said records now named most fresh later (Err fault) is = (
  settled_fault wanted mentions place said records now
      (wanted_after now (rows_in (numbered_file wanted mentions (place + 1) records))) fault most is
      (λ name none. unmentioned wanted mentions (place + 1) records now name named none) fresh,
  later now (λ name some once. let more = more_there said records name in
      let still : 0 < mentions_in (said ∷ records) name = omega (arith, some, more) in fresh name still once),
)

pub settles : (wanted : Wanted) (mentions : RecordName → ℕ) (place : ℕ) (records : List Said) (now : Wanted)
    → AreNamed wanted
    → ((name : RecordName) → mentions_in records name ≤ mentions name)
    → ((name : RecordName) → 0 < mentions_in records name → is_repeated mentions (Some name) ≡ false → now name
    ≡ wanted name)
    → AllByRecursion (Settled wanted mentions
    (wanted_after now (rows_in (numbered_file wanted mentions place records)))) records
settles wanted mentions place [] now named most fresh = tt
settles wanted mentions place (said ∷ records) now named most fresh =
    settles_from wanted mentions place said records now named most fresh
    (λ next so. settles wanted mentions (place + 1) records next named
    (λ name. let more = more_there said records name in let bound = most name in omega (arith, more, bound)) so)
    (numbered_record wanted mentions place said) refl

-- ---- after the absent records

-- the row withdraws its record
abbrev pub Withdraws : Wanted → (mentions : RecordName → ℕ) → Kind → (place : ℕ) → Row → Type 0
Withdraws wanted mentions of place row =
    (held : Row) × (absent_row wanted mentions of (row_name row) ≡ Some held) × (numbered_withdrawn place held ≡ Ok row)

pub all_withdraw : (wanted : Wanted) (mentions : RecordName → ℕ) (of : Kind) (place : ℕ) (names : List RecordName)
    → AreNamed wanted
    → AllByRecursion (Withdraws wanted mentions of place) (rows_in (numbered_absent wanted mentions of place names))
all_withdraw wanted mentions of place names named =
    all_absent (Withdraws wanted mentions of place) wanted mentions of place names
    (λ name held made is e.
    let name_is : row_name made ≡ name =
    (withdrawn_row wanted name place held made named (absent_is wanted mentions of name held is).0 e).1 in
    (held, subst (λ n. absent_row wanted mentions of n ≡ Some held) (sym name_is) is, e))

determined : (wanted : Wanted) (mentions : RecordName → ℕ) (of : Kind) (place : ℕ) (name : RecordName)
    (held made row : Row)
    → absent_row wanted mentions of name ≡ Some held → numbered_withdrawn place held ≡ Ok made
    → Withdraws wanted mentions of place row → row_name row ≡ name → row ≡ made
determined wanted mentions of place name held made row is e withdraws name_is =
    let (other, absent, it) = withdraws in
    let there : absent_row wanted mentions of name ≡ Some other = subst (λ n. absent_row wanted mentions of n
    ≡ Some other) name_is absent in
    let same : other ≡ held = some_row other held (sym there ∙ is) in
    ok_of row made (sym it ∙ ap (numbered_withdrawn place) same ∙ e)

-- the absent record of a name that is listed is withdrawn
pub there : (wanted : Wanted) (mentions : RecordName → ℕ) (of : Kind) (place : ℕ) (names : List RecordName)
    (now : Wanted) (name : RecordName) (held made : Row) → AreNamed wanted
    → absent_row wanted mentions of name ≡ Some held → numbered_withdrawn place held ≡ Ok made
    → list_any (same_name name) names ≡ true
    → wanted_after now (rows_in (numbered_absent wanted mentions of place names)) name ≡ Some made
there wanted mentions of place [] now name held made named is e listed = absurd (cc)
there wanted mentions of place (n ∷ ns) now name held made named is e listed =
    let rest = numbered_absent wanted mentions of place ns in
    let first = option_to_list (option_map (numbered_withdrawn place) (absent_row wanted mentions of n)) in
    let between = wanted_after now (rows_in first) in
    elim (cases_Bool (list_any (same_name name) ns)) [
      | inl later ↦ after_both now first rest name ∙ there wanted mentions of place ns between name held made named is
          e later
      | inr never ↦
          let here : same_name name n ≡ true = first_listed (same_name name n) (list_any (same_name name) ns) never
          listed in
          let same : name ≡ n = (same_names name n).0 here in
          let absent : absent_row wanted mentions of n ≡ Some held = subst (λ m. absent_row wanted mentions of m
          ≡ Some held) same is in
          let made_is : first ≡ Ok made ∷ [] = ap (λ o. option_to_list (option_map (numbered_withdrawn place) o))
          absent ∙ ap (λ r. r ∷ []) e in
          let name_is : row_name made ≡ name =
          (withdrawn_row wanted name place held made named (absent_is wanted mentions of name held is).0 e).1 in
          let puts : between name ≡ Some made = ap (λ l. wanted_after now (rows_in l) name) made_is
          ∙ rw ((same_names (row_name made) name).1 name_is) refl in
          after_both now first rest name
          ∙ decided between rest puts (came (Withdraws wanted mentions of place) between (rows_in rest) name
          (all_withdraw wanted mentions of place ns named))
    ]
  where
    first_listed : (a b : Bool) → b ≡ false → (a || b) ≡ true → a ≡ true
    first_listed true b e l = refl
    first_listed false b e l = absurd (cc)

    decided : (between : Wanted) (rest : List Offered) → between name ≡ Some made
        → Came (Withdraws wanted mentions of place) between (rows_in rest) name
        → wanted_after between (rows_in rest) name ≡ Some made
    decided between rest puts (inl same) = same ∙ puts
    decided between rest puts (inr it) =
        let (row, is_row, withdraws, name_is) = it in
        is_row ∙ ap Some (determined wanted mentions of place name held made row is e withdraws name_is)
