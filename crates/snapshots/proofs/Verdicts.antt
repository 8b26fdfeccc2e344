-- No row that is offered for a snapshot is refused for its revision.
use Rattle.std.proofs.Common.{◌≡◌, ℕ, ◌+◌, ◌<◌, ◌≤◌, ◌&&◌, ◌||◌, Bool, true, false, List, [], ◌∷◌, ◌++◌, length, Option, Some, None, is_none, Result, Ok, Err, option_to_list, map, refl, ap, sym, subst, ◌∙◌, inl, inr, arith, eqb-true}
use Rattle.std.proofs.lemmas.Bool.{and_parts, cases_Bool, false_from_ne_true, ltb-false, or_parts}
use Rattle.std.specs.Prelude.{T}
use Rattle.std.specs.FinMap.{entries, entries_sorted, is_sorted, keys}
use Rattle.std.specs.FinMap.Entries.{below_all}
use Rattle.std.specs.List.{AllByRecursion, list_any}
use Rattle.std.specs.Option.{option_map}
use Rattle.std.specs.Ordering.{is_eq, is_lt}
use Rattle.std.specs.declared.cmp.Ordering.{Ordering}
use Rattle.std.specs.declared.cmp.Ordering.TheVariants.{Less, Equal, Greater}
use Rattle.scim_key.proofs.RecordLaws.{same as same_names}
use Rattle.scim_key.proofs.RevisionLaws.{irreflexive, transitive}
use Rattle.scim_key.specs.RecordOrder.{tied}
use Rattle.scim_key.specs.Records.{name_cmp, same_name}
use Rattle.scim_key.specs.Revisions.{before, ◌≺◌}
use Rattle.scim_key.specs.declared.records.Kind.{Kind}
use Rattle.scim_key.specs.declared.records.RecordName.{RecordName}
use Rattle.source_csv.specs.Records.{row_name, row_revision}
use Rattle.source_csv.specs.declared.rows.Row.{Row}
use Rattle.connector_core.specs.Accepting.{accepted, newer}
use Rattle.connector_core.specs.Changing.{accepted_map, is_full, judged, limited, taking, unknown_member, verdicts}
use Rattle.connector_core.specs.Maps.{BookMap, book_of}
use Rattle.connector_core.specs.declared.accepting.Verdict.{Verdict}
use Rattle.connector_core.specs.declared.accepting.Verdict.TheVariants as verdict
use Rattle.connector_core.specs.declared.changing.ChangeFault.{ChangeFault}
use Rattle.connector_core.specs.declared.knowledge.Known.{Known}
use Rattle.snapshots.proofs.After.{Apart, Withdraws, all_withdraw}
use Rattle.snapshots.proofs.Offers.{Mentioned, Offered, absent_is, all_both, all_if_sure, mentioned, more_here, more_there, record_row, revisions_rise, weaker, withdrawn_row}
use Rattle.snapshots.proofs.Taken.{put_wants, row_known, wanted_in}
use Rattle.snapshots.specs.Laws.{AreNamed, GoesOn, IsNoSetback, NoSetbacks, offered_by, rows_in}
use Rattle.snapshots.specs.Snapshots.{Said, Wanted, absent_if_sure, absent_row, is_repeated, mentions_in, numbered, numbered_absent, numbered_file, numbered_record, numbered_withdrawn, unsure}
use Rattle.snapshots.specs.declared.doubts.Unsure.{Unsure}

-- ---- one row

newer_is_fine : (no_room : Bool) (row : Row) (missing : Option ℕ) → IsNoSetback (limited no_room row (newer missing))
newer_is_fine true row None = tt
newer_is_fine false row None = tt
newer_is_fine true row (Some at) = tt
newer_is_fine false row (Some at) = tt

above : (held row : Row) (missing : Option ℕ) → row_revision held ≺ row_revision row
    → accepted (Some held) row missing ≡ newer missing
above held row missing up =
    let not_below : before (row_revision row) (row_revision held) ≡ false =
    false_from_ne_true _ (λ down. irreflexive (row_revision held) (transitive (row_revision held) (row_revision row)
    (row_revision held) up down)) in
    rw (not_below, up) refl

fine : (book : BookMap) (row : Row) (held : Option Row) → wanted_in book (row_name row) ≡ held → GoesOn held row
    → IsNoSetback (judged book row)
fine book row None is goes =
    let full = is_full (row_name row).kind (keys book) in
    let missing = unknown_member (book_of book) row in
    subst (λ last. IsNoSetback (limited (is_none last && full) row (accepted last row missing))) (sym is)
    (newer_is_fine full row missing)
fine book row (Some held) is (inl same) =
    let known = row_known book row (is ∙ ap Some (sym same)) in
    subst IsNoSetback (sym known) tt
fine book row (Some held) is (inr up) =
    let full = is_full (row_name row).kind (keys book) in
    let missing = unknown_member (book_of book) row in
    subst (λ last. IsNoSetback (limited (is_none last && full) row (accepted last row missing))) (sym is)
    (subst (λ r. IsNoSetback (limited false row r)) (sym (above held row missing up)) (newer_is_fine false row missing))

-- ---- rows of different records

-- each row has another name than those after it
abbrev Differ : List Row → Type 0
Differ [] = Unit {0}
Differ (row ∷ rows) = AllByRecursion (λ later. Apart (row_name later) row) rows × Differ rows

-- a row changes nothing about other records
kept_by : (book : BookMap) (row : Row) (said : Result Verdict ChangeFault) (name : RecordName) → Apart name row
    → wanted_in (accepted_map book row said) name ≡ wanted_in book name
kept_by book row (Ok verdict.New) name apart = put_wants book row name ∙ rw apart refl
kept_by book row (Ok verdict.Known) name apart = refl
kept_by book row (Ok verdict.Older) name apart = refl
kept_by book row (Err fault) name apart = refl

abbrev From : BookMap → Row → Type 0
From book row = GoesOn (wanted_in book (row_name row)) row

still_from : (book : BookMap) (row : Row) (rows : List Row)
    → AllByRecursion (λ later. Apart (row_name later) row) rows → AllByRecursion (From book) rows
    → AllByRecursion (From (taking book row)) rows
still_from book row [] apart goes = tt
still_from book row (later ∷ rows) apart goes = (
  subst (λ h. GoesOn h later) (sym (kept_by book row (judged book row) (row_name later) apart.0)) goes.0,
  still_from book row rows apart.1 goes.1,
)

all_fine : (book : BookMap) (rows : List Row) → Differ rows → AllByRecursion (From book) rows
    → AllByRecursion IsNoSetback (verdicts book rows)
all_fine book [] differ goes = tt
all_fine book (row ∷ rows) differ goes = (
  fine book row (wanted_in book (row_name row)) refl goes.0,
  all_fine (taking book row) rows differ.1 (still_from book row rows differ.0 goes.1),
)

-- ---- what is offered is of different records

parted : (row later : Row) → (row_name row ≡ row_name later → ⊥) → Apart (row_name later) row
parted row later differ = false_from_ne_true _ (λ is. differ ((same_names (row_name row) (row_name later)).0 is))

file_step : (wanted : Wanted) (mentions : RecordName → ℕ) (place : ℕ) (said : Said) (records : List Said)
    → AreNamed wanted
    → ((name : RecordName) → mentions_in (said ∷ records) name ≤ mentions name)
    → Differ (rows_in (numbered_file wanted mentions (place + 1) records))
    → (r : Offered) → numbered_record wanted mentions place said ≡ r
    → Differ (rows_in (r ∷ numbered_file wanted mentions (place + 1) records))
file_step wanted mentions place said records named most rest (Err fault) is = rest
file_step wanted mentions place said records named most rest (Ok made) is = (
  (let its = record_row wanted mentions place said made named is in
      let once : is_repeated mentions (Some (row_name made)) ≡ false = subst (λ o. is_repeated mentions o
      ≡ false) its.1 its.2 in
      let few : mentions (row_name made) ≤ 1 = ltb-false 1 (mentions (row_name made)) once in
      let more = more_here said records (row_name made) its.1 in
      let bound = most (row_name made) in
      let none : mentions_in records (row_name made) ≡ 0 = omega (arith, few, more, bound) in
      weaker (Mentioned records) (λ later. Apart (row_name later) made)
      (λ later some. parted made later (λ same.
      let here : 0 < mentions_in records (row_name made) = subst (λ n. 0 < mentions_in records n)
      (sym same) some in omega (arith, here, none)))
      (rows_in (numbered_file wanted mentions (place + 1) records))
      (mentioned wanted mentions (place + 1) records named)),
  rest,
)

file_differs : (wanted : Wanted) (mentions : RecordName → ℕ) (place : ℕ) (records : List Said) → AreNamed wanted
    → ((name : RecordName) → mentions_in records name ≤ mentions name)
    → Differ (rows_in (numbered_file wanted mentions place records))
file_differs wanted mentions place [] named most = tt
file_differs wanted mentions place (said ∷ records) named most =
    file_step wanted mentions place said records named most
    (file_differs wanted mentions (place + 1) records named
    (λ name. let more = more_there said records name in let bound = most name in omega (arith, more, bound)))
    (numbered_record wanted mentions place said) refl

-- each name stands once
abbrev Once : List RecordName → Type 0
Once [] = Unit {0}
Once (name ∷ names) = (list_any (same_name name) names ≡ false) × Once names

-- a row of the absent records of these names has one of the names
abbrev Listed : List RecordName → Row → Type 0
Listed names row = list_any (λ name. same_name name (row_name row)) names ≡ true

list_more : (a b : Bool) → b ≡ true → (a || b) ≡ true
list_more true b e = refl
list_more false b e = e

list_first : (a b : Bool) → a ≡ true → (a || b) ≡ true
list_first true b e = refl
list_first false b e = absurd (cc)

absent_listed : (wanted : Wanted) (mentions : RecordName → ℕ) (of : Kind) (place : ℕ) (names : List RecordName)
    → AreNamed wanted
    → AllByRecursion (Listed names) (rows_in (numbered_absent wanted mentions of place names))
absent_listed wanted mentions of place [] named = tt
absent_listed wanted mentions of place (name ∷ names) named =
    all_both (Listed (name ∷ names))
    (option_to_list (option_map (numbered_withdrawn place) (absent_row wanted mentions of name))) _
    (first (absent_row wanted mentions of name) refl)
    (weaker (Listed names) (Listed (name ∷ names)) (λ row is. list_more (same_name name (row_name row)) _ is) _
    (absent_listed wanted mentions of place names named))
  where
    made : (held : Row) → absent_row wanted mentions of name ≡ Some held → (r : Offered)
        → numbered_withdrawn place held ≡ r → AllByRecursion (Listed (name ∷ names)) (rows_in (r ∷ []))
    made held is (Err fault) e = tt
    made held is (Ok row) e =
        let name_is = (withdrawn_row wanted name place held row named (absent_is wanted mentions of name held is).0
        e).1 in
        (list_first (same_name name (row_name row)) _ ((same_names name (row_name row)).1 (sym name_is)), tt)

    first : (held : Option Row) → absent_row wanted mentions of name ≡ held → AllByRecursion (Listed (name ∷ names))
        (rows_in (option_to_list (option_map (numbered_withdrawn place) held)))
    first None is = tt
    first (Some held) is = made held is (numbered_withdrawn place held) refl

differ_both : (xs ys : List Offered) → Differ (rows_in xs) → Differ (rows_in ys)
    → AllByRecursion (λ row. AllByRecursion (λ later. Apart (row_name later) row) (rows_in ys)) (rows_in xs)
    → Differ (rows_in (xs ++ ys))
differ_both [] ys a b across = b
differ_both (Ok row ∷ xs) ys a b across =
    (all_both (λ later. Apart (row_name later) row) xs ys a.0 across.0, differ_both xs ys a.1 b across.1)
differ_both (Err fault ∷ xs) ys a b across = differ_both xs ys a b across

not_listed : (name : RecordName) (names : List RecordName) (other : RecordName) → list_any (same_name name) names
    ≡ false → list_any (λ n. same_name n other) names ≡ true → name ≡ other → ⊥
not_listed name [] other never listed same = cc
not_listed name (n ∷ ns) other never listed same = elim (cases_Bool (same_name n other)) [
  | inl e ↦
      let both : same_name name n ≡ true = (same_names name n).1 (same ∙ sym ((same_names n other).0 e)) in
      let apart = (or_parts (same_name name n) (list_any (same_name name) ns) never).0 in
      cc
  | inr e ↦ not_listed name ns other (or_parts (same_name name n) (list_any (same_name name) ns) never).1
      (rw e at listed) same
]

abbrev Across : List Offered → Row → Type 0
Across rest row = AllByRecursion (λ later. Apart (row_name later) row) (rows_in rest)

absent_differs : (wanted : Wanted) (mentions : RecordName → ℕ) (of : Kind) (place : ℕ) (names : List RecordName)
    → AreNamed wanted → Once names
    → Differ (rows_in (numbered_absent wanted mentions of place names))
absent_differs wanted mentions of place [] named once = tt
absent_differs wanted mentions of place (name ∷ names) named once =
    let rest = numbered_absent wanted mentions of place names in
    differ_both (option_to_list (option_map (numbered_withdrawn place) (absent_row wanted mentions of name))) rest
    (alone (absent_row wanted mentions of name)) (absent_differs wanted mentions of place names named once.1)
    (first (absent_row wanted mentions of name) refl)
  where
    alone_made : (r : Offered) → Differ (rows_in (r ∷ []))
    alone_made (Ok row) = (tt, tt)
    alone_made (Err fault) = tt

    alone : (held : Option Row) → Differ (rows_in (option_to_list (option_map (numbered_withdrawn place) held)))
    alone None = tt
    alone (Some held) = alone_made (numbered_withdrawn place held)

    made : (held : Row) → absent_row wanted mentions of name ≡ Some held → (r : Offered)
        → numbered_withdrawn place held ≡ r → AllByRecursion (Across (numbered_absent wanted mentions of place names))
        (rows_in (r ∷ []))
    made held is (Err fault) e = tt
    made held is (Ok row) e =
        let name_is = (withdrawn_row wanted name place held row named (absent_is wanted mentions of name held is).0
        e).1 in (
          weaker (Listed names) (λ later. Apart (row_name later) row)
              (λ later listed. parted row later (λ same. not_listed name names (row_name later) once.0 listed
              (sym name_is ∙ same)))
              _ (absent_listed wanted mentions of place names named),
          tt,
        )

    first : (held : Option Row) → absent_row wanted mentions of name ≡ held
        → AllByRecursion (Across (numbered_absent wanted mentions of place names))
        (rows_in (option_to_list (option_map (numbered_withdrawn place) held)))
    first None is = tt
    first (Some held) is = made held is (numbered_withdrawn place held) refl

-- a row of the file is none of an absent record
across : (wanted : Wanted) (of : Kind) (place : ℕ) (records : List Said) (rows : List Row) (others : List Row)
    → AllByRecursion (Mentioned records) rows
    → AllByRecursion (Withdraws wanted (mentions_in records) of place) others
    → AllByRecursion (λ row. AllByRecursion (λ later. Apart (row_name later) row) others) rows
across wanted of place records rows others heard absent =
    weaker (Mentioned records) (λ row. AllByRecursion (λ later. Apart (row_name later) row) others)
    (λ row some. weaker (Withdraws wanted (mentions_in records) of place) (λ later. Apart (row_name later) row)
    (λ later withdraws. parted row later (λ same.
    let (held, is, made) = withdraws in
    let none : mentions_in records (row_name later)
    ≡ 0 = eqb-true _ 0 (absent_is wanted (mentions_in records) of (row_name later) held is).3 in
    let here : 0 < mentions_in records (row_name later) = subst (λ n. 0 < mentions_in records n) same some in
    omega (arith, here, none)))
    others absent)
    rows heard

if_sure_differ : (why : Option Unsure) (rows : List Offered) → Differ (rows_in rows)
    → Differ (rows_in (absent_if_sure why rows))
if_sure_differ None rows differ = differ
if_sure_differ (Some why) rows differ = tt

offered_differ : (wanted : Wanted) (names : List RecordName) (of : Kind) (records : List Said) (is_closed : Bool)
    → AreNamed wanted → Once names
    → Differ (rows_in (numbered wanted names of records is_closed))
unfolding numbered
offered_differ wanted names of records is_closed named once =
    let mentions = mentions_in records in
    let place = length records + 1 in
    let file = numbered_file wanted mentions 1 records in
    let absent = numbered_absent wanted mentions of place names in
    differ_both file (absent_if_sure (unsure is_closed records) absent)
    (file_differs wanted mentions 1 records named (λ name. omega arith))
    (if_sure_differ (unsure is_closed records) absent (absent_differs wanted mentions of place names named once))
    (across wanted of place records (rows_in file) (rows_in (absent_if_sure (unsure is_closed records) absent))
    (mentioned wanted mentions 1 records named)
    (all_if_sure (Withdraws wanted mentions of place) (unsure is_closed records) absent
    (all_withdraw wanted mentions of place names named)))

-- ---- the names of a book

lesser : (o : Ordering) → is_lt o ≡ true → is_eq o ≡ false
lesser Less e = refl
lesser Equal e = absurd (cc)
lesser Greater e = refl

below_once : (name : RecordName) (es : List (RecordName × Known)) → below_all name_cmp name es ≡ true
    → list_any (same_name name) (map (λ e. e.0) es) ≡ false
below_once name [] below = refl
below_once name (e ∷ es) below =
    let its = and_parts (is_lt (name_cmp name e.0)) (below_all name_cmp name es) below in
    let apart : same_name name e.0 ≡ false = sym (tied name e.0) ∙ lesser (name_cmp name e.0) its.0 in
    rw apart (below_once name es its.1)

sorted_once : (es : List (RecordName × Known)) → is_sorted name_cmp es ≡ true → Once (map (λ e. e.0) es)
sorted_once [] sorted = tt
sorted_once (e ∷ es) sorted =
    let its = and_parts (below_all name_cmp e.0 es) (is_sorted name_cmp es) sorted in
    (below_once e.0 es its.0, sorted_once es its.1)

names_once : (book : BookMap) → Once (keys book)
names_once book = sorted_once (entries book) (is_so (is_sorted name_cmp (entries book)) (entries_sorted book))
  where
    is_so : (b : Bool) → T b → b ≡ true
    is_so true h = refl
    is_so false h = absurd h

pub no_setbacks : NoSetbacks
no_setbacks book of records is_closed named =
    all_fine book (offered_by book of records is_closed)
    (offered_differ (wanted_in book) (keys book) of records is_closed named (names_once book))
    (revisions_rise (wanted_in book) (keys book) of records is_closed named)
