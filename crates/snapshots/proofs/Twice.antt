-- A snapshot that is offered is wanted afterwards, and offered again it changes nothing.
use Rattle.std.proofs.Common.{◌≡◌, ℕ, ◌+◌, ◌<◌, ◌≤◌, Bool, true, false, List, [], ◌∷◌, length, Option, Some, None, IsSome, Ok, Err, refl, ap, sym, subst, ◌∙◌, inl, inr, arith, eqb-true, eq-eqb}
use Rattle.std.proofs.lemmas.Bool.{cases_Bool}
use Rattle.std.specs.List.{AllByRecursion, list_any}
use Rattle.std.specs.Option.{option_or}
use Rattle.std.specs.Result.{result_ok}
use Rattle.scim_key.specs.Records.{same_kind, same_name}
use Rattle.scim_key.specs.Revisions.{RevisionValue, next_revision}
use Rattle.scim_key.specs.declared.records.Kind.{Kind}
use Rattle.scim_key.specs.declared.records.RecordName.{RecordName}
use Rattle.source_csv.specs.Files.{at_place}
use Rattle.source_csv.specs.Records.{at_revision, row_name, row_revision, says_the_same}
use Rattle.source_csv.specs.declared.rows.Row.{Row}
use Rattle.source_csv.specs.declared.rows.Row.TheVariants.{User, Group}
use Rattle.snapshots.proofs.After.{Came, Settled, Withdraws, after_both, all_withdraw, came, named_after, settled, settles, there, unmentioned, wanted_after}
use Rattle.snapshots.proofs.Offers.{Offered, absent_is, all_absent, all_both, more_here, more_there, ok_row, one, placed, record_row, some_row}
use Rattle.snapshots.proofs.SameSaid.{says_itself, says_own}
use Rattle.snapshots.specs.Laws.{AreNamed, HasNexts, IsWanted, IsWithdrawn, SaysTheSame, rows_in}
use Rattle.snapshots.specs.Snapshots.{Said, Wanted, absent_if_sure, absent_row, is_in_force, is_repeated, mentions_in, name_in, numbered, numbered_absent, numbered_file, numbered_record, numbered_row, numbered_withdrawn, row_after, row_at, unsure, withdrawn}
use Rattle.snapshots.specs.declared.doubts.Unsure.{Unsure}

-- ---- a row of the file, and what is wanted after it

-- what is wanted of a record whose wanted row says something else, by the next revision
settled_next : (held row : Row) (revision : RevisionValue) → says_the_same row held ≡ false
    → next_revision (row_revision held) ≡ Some revision
    → settled (Some held) row ≡ Some (at_revision revision row)
settled_next held row revision not next =
    let made : numbered_row (Some held) row ≡ Ok (at_revision revision row) = rw not (ap (λ o. row_at o row) next) in
    ap (λ r. option_or (result_ok r) (Some held)) made

settled_last : (held row : Row) → says_the_same row held ≡ false → next_revision (row_revision held) ≡ None
    → settled (Some held) row ≡ Some held
settled_last held row not next =
    let made : numbered_row (Some held) row ≡ row_at None row = rw not (ap (λ o. row_at o row) next) in
    ap (λ r. option_or (result_ok r) (Some held)) made

settled_same : (held row : Row) → says_the_same row held ≡ true → settled (Some held) row ≡ Some held
settled_same held row alike =
    let made : numbered_row (Some held) row ≡ Ok held = rw alike refl in
    ap (λ r. option_or (result_ok r) (Some held)) made

says_next : (held row : Row) (next : Option RevisionValue) → says_the_same row held ≡ false
    → next_revision (row_revision held) ≡ next → IsSome next → SaysTheSame (settled (Some held) row) row
says_next held row None not is some = absurd (cc)
says_next held row (Some revision) not is some = subst (λ o. SaysTheSame o row)
    (sym (settled_next held row revision not is)) (says_itself revision row)

says_settled : (held : Option Row) (row : Row)
    → ((last : Row) → held ≡ Some last → IsSome (next_revision (row_revision last)))
    → SaysTheSame (settled held row) row
says_settled None row next = says_own row
says_settled (Some held) row next = elim (cases_Bool (says_the_same row held)) [
  | inl alike ↦ subst (λ o. SaysTheSame o row) (sym (settled_same held row alike)) alike
  | inr not ↦ says_next held row (next_revision (row_revision held)) not refl (next held refl)
]

twice_next : (held row made : Row) (next : Option RevisionValue) → says_the_same row held ≡ false
    → next_revision (row_revision held) ≡ next
    → numbered_row (settled (Some held) row) row ≡ Ok made → settled (Some held) row ≡ Some made
twice_next held row made None not is e =
    let again : numbered_row (Some held) row ≡ Ok made = subst (λ o. numbered_row o row ≡ Ok made)
    (settled_last held row not is) e in
    let last : row_at None row ≡ Ok made = sym (ap (λ o. row_at o row) is) ∙ rw not at again in
    absurd (cc)
twice_next held row made (Some revision) not is e =
    let is_next = settled_next held row revision not is in
    let again : numbered_row (Some (at_revision revision row)) row ≡ Ok made = subst (λ o. numbered_row o row
    ≡ Ok made) is_next e in
    is_next ∙ ap Some (ok_row (at_revision revision row) made (rw (says_itself revision row) at again))

-- what is offered again is what is wanted
settled_twice : (held : Option Row) (row made : Row) → numbered_row (settled held row) row ≡ Ok made
    → settled held row ≡ Some made
settled_twice None row made e = ap Some (ok_row row made (rw (says_own row) at e))
settled_twice (Some held) row made e = elim (cases_Bool (says_the_same row held)) [
  | inl alike ↦
      let is_held = settled_same held row alike in
      let again : numbered_row (Some held) row ≡ Ok made = subst (λ o. numbered_row o row ≡ Ok made) is_held e in
      is_held ∙ ap Some (ok_row held made (rw alike at again))
  | inr not ↦ twice_next held row made (next_revision (row_revision held)) not refl e
]

-- ---- a withdrawn row

quiet : (revision : RevisionValue) (row : Row) → is_in_force (at_revision revision (withdrawn row)) ≡ false
quiet revision (User row) = refl
quiet revision (Group row) = refl

quiet_next : (row made : Row) (next : Option RevisionValue) → row_at next (withdrawn row) ≡ Ok made → is_in_force made
    ≡ false
quiet_next row made None e = absurd (cc)
quiet_next row made (Some revision) e = subst (λ r. is_in_force r ≡ false)
    (ok_row (at_revision revision (withdrawn row)) made e) (quiet revision row)

not_in_force : (place : ℕ) (held made : Row) → numbered_withdrawn place held ≡ Ok made → is_in_force made ≡ false
not_in_force place held made e = quiet_next held made (next_revision (row_revision held))
    (placed place (row_after held (withdrawn held)) made e)

made_next : (place : ℕ) (held : Row) (next : Option RevisionValue) → next_revision (row_revision held) ≡ next
    → IsSome next → (made : Row) × (numbered_withdrawn place held ≡ Ok made)
made_next place held None is some = absurd (cc)
made_next place held (Some revision) is some =
    (at_revision revision (withdrawn held), ap (λ o. at_place place (row_at o (withdrawn held))) is)

-- ---- all of a snapshot

all_file_of : (P : Row → Type 0) (Q : Said → Type 0) (wanted : Wanted) (mentions : RecordName → ℕ) (place : ℕ)
    (records : List Said)
    → ((at : ℕ) (said : Said) (row : Row) → Q said → numbered_record wanted mentions at said ≡ Ok row → P row)
    → AllByRecursion Q records → AllByRecursion P (rows_in (numbered_file wanted mentions place records))
all_file_of P Q wanted mentions place [] each all = tt
all_file_of P Q wanted mentions place (said ∷ records) each all =
    one P (numbered_record wanted mentions place said) (numbered_file wanted mentions (place + 1) records)
    (λ row e. each place said row all.0 e)
    (all_file_of P Q wanted mentions (place + 1) records each all.1)

if_sure : (P : Row → Type 0) (why : Option Unsure) (rows : List Offered)
    → (why ≡ None → AllByRecursion P (rows_in rows)) → AllByRecursion P (rows_in (absent_if_sure why rows))
if_sure P None rows all = all refl
if_sure P (Some why) rows all = tt

-- each record of a snapshot is among those that have its name
abbrev Counted : List Said → Said → Type 0
Counted records said = (name : RecordName) → name_in said ≡ Some name → 0 < mentions_in records name

all_counted : (all records : List Said) → ((name : RecordName) → mentions_in records name ≤ mentions_in all name)
    → AllByRecursion (Counted all) records
all_counted all [] most = tt
all_counted all (said ∷ records) most = (
  (λ name is. let more = more_here said records name is in let bound = most name in omega (arith, more, bound)),
  all_counted all records (λ name. let more = more_there said records name in let bound = most name in omega
      (arith, more, bound)),
)

abbrev pub AreListed : Wanted → List RecordName → Type 0
AreListed wanted names = (name : RecordName) (row : Row) → wanted name ≡ Some row → list_any (same_name name) names
    ≡ true

module _ (wanted : Wanted) (names : List RecordName) (of : Kind) (records : List Said) (is_closed : Bool)
    (named : AreNamed wanted) (listed : AreListed wanted names) where
  abbrev mentions : RecordName → ℕ
  mentions = mentions_in records

  abbrev place : ℕ
  place = length records + 1

  abbrev file : List Offered
  file = numbered_file wanted mentions 1 records

  abbrev absentees : List Offered
  absentees = absent_if_sure (unsure is_closed records) (numbered_absent wanted mentions of place names)

  -- the wanted rows after the file, and after the absent records
  abbrev middle : Wanted
  middle = wanted_after wanted (rows_in file)

  abbrev pub later : Wanted
  later = wanted_after middle (rows_in absentees)

  pub later_is : wanted_after wanted (rows_in (numbered wanted names of records is_closed)) ≡ later
  unfolding numbered
  later_is = λ i name. after_both wanted file absentees name i

  withdrawals : AllByRecursion (Withdraws wanted mentions of place) (rows_in absentees)
  withdrawals = if_sure (Withdraws wanted mentions of place) (unsure is_closed records)
      (numbered_absent wanted mentions of place names)
      (λ sure. all_withdraw wanted mentions of place names named)

  -- an absent record isn't mentioned
  unheard : (row : Row) → Withdraws wanted mentions of place row → mentions (row_name row) ≡ 0
  unheard row withdraws =
      let (held, absent, made) = withdraws in
      eqb-true (mentions (row_name row)) 0 (absent_is wanted mentions of (row_name row) held absent).3

  still : (name : RecordName) → 0 < mentions name → later name ≡ middle name
  still name some = by (came (Withdraws wanted mentions of place) middle (rows_in absentees) name withdrawals)
    where
      by : Came (Withdraws wanted mentions of place) middle (rows_in absentees) name → later name ≡ middle name
      by (inl same) = same
      by (inr it) =
          let (row, is, withdraws, name_is) = it in
          let none : mentions name ≡ 0 = subst (λ n. mentions n ≡ 0) name_is (unheard row withdraws) in
          absurd (omega (arith, some, none))

  counted : AllByRecursion (Counted records) records
  counted = all_counted records records (λ name. omega arith)

  settled_middle : AllByRecursion (Settled wanted mentions middle) records
  settled_middle = settles wanted mentions 1 records wanted named (λ name. omega arith) (λ name some once. refl)

  settled_step : (said : Said) → Settled wanted mentions middle said → Counted records said
      → Settled wanted mentions later said
  settled_step (Ok row) is some = λ once. still (row_name row) (some (row_name row) refl) ∙ is once
  settled_step (Err rejected) is some = tt

  settled_all : (rest : List Said) → AllByRecursion (Settled wanted mentions middle) rest
      → AllByRecursion (Counted records) rest → AllByRecursion (Settled wanted mentions later) rest
  settled_all [] is some = tt
  settled_all (said ∷ rest) is some = (settled_step said is.0 some.0, settled_all rest is.1 some.1)

  settled_later : AllByRecursion (Settled wanted mentions later) records
  settled_later = settled_all records settled_middle counted

  -- ---- what is wanted afterwards

  wanted_step : HasNexts wanted → (said : Said) → Settled wanted mentions later said → IsWanted later records said
  wanted_step next (Ok row) is = λ once.
      subst (λ o. SaysTheSame o row) (sym (is once)) (says_settled (wanted (row_name row)) row
      (λ held is_held. next (row_name row) held is_held))
  wanted_step next (Err rejected) is = tt

  wanted_all : HasNexts wanted → (rest : List Said) → AllByRecursion (Settled wanted mentions later) rest
      → AllByRecursion (IsWanted later records) rest
  wanted_all next [] is = tt
  wanted_all next (said ∷ rest) is = (wanted_step next said is.0, wanted_all next rest is.1)

  pub present_later : HasNexts wanted → AllByRecursion (IsWanted later records) records
  present_later next = wanted_all next records settled_later

  -- a record that isn't mentioned wants after the file what it wanted before
  unmoved : (name : RecordName) → mentions name ≡ 0 → middle name ≡ wanted name
  unmoved name none = unmentioned wanted mentions 1 records wanted name named none

  absent_here : (name : RecordName) (held : Row) → wanted name ≡ Some held → is_in_force held ≡ true
      → same_kind name.kind of ≡ true → mentions name ≡ 0 → absent_row wanted mentions of name ≡ Some held
  absent_here name held is force kind none = rw (kind, eq-eqb (mentions name) 0 none, is, force) refl

  withdrawn_there : (name : RecordName) (held made : Row) → wanted name ≡ Some held
      → absent_row wanted mentions of name ≡ Some held → numbered_withdrawn place held ≡ Ok made
      → unsure is_closed records ≡ None
      → later name ≡ Some made
  withdrawn_there name held made is absent e sure =
      ap (λ w. wanted_after middle (rows_in (absent_if_sure w (numbered_absent wanted mentions of place names))) name)
      sure
      ∙ there wanted mentions of place names middle name held made named absent e (listed name held is)

  withdrawn_by : HasNexts wanted → (name : RecordName) → unsure is_closed records ≡ None → same_kind name.kind of
      ≡ true → mentions name ≡ 0 → later name ≡ middle name
      → (held : Option Row) → wanted name ≡ held → IsWithdrawn (later name)
  withdrawn_by next name sure kind none same None is = subst IsWithdrawn (sym (same ∙ unmoved name none ∙ is)) tt
  withdrawn_by next name sure kind none same (Some held) is = elim (cases_Bool (is_in_force held)) [
    | inl force ↦
        let (made, e) = made_next place held (next_revision (row_revision held)) refl (next name held is) in
        subst IsWithdrawn (sym (withdrawn_there name held made is (absent_here name held is force kind none) e sure))
        (not_in_force place held made e)
    | inr quiets ↦ subst IsWithdrawn (sym (same ∙ unmoved name none ∙ is)) quiets
  ]

  pub absent_later : HasNexts wanted → (name : RecordName) → unsure is_closed records ≡ None → same_kind name.kind of
      ≡ true → mentions name ≡ 0 → IsWithdrawn (later name)
  absent_later next name sure kind none =
      by (came (Withdraws wanted mentions of place) middle (rows_in absentees) name withdrawals)
    where
      by : Came (Withdraws wanted mentions of place) middle (rows_in absentees) name → IsWithdrawn (later name)
      by (inl same) = withdrawn_by next name sure kind none same (wanted name) refl
      by (inr it) =
          let (row, is, withdraws, name_is) = it in
          let (held, absent, made) = withdraws in
          subst IsWithdrawn (sym is) (not_in_force place held row made)

  other_kind : (name : RecordName) (held : Row) → absent_row wanted mentions of name ≡ Some held
      → same_kind name.kind of ≡ false → ⊥
  other_kind name held absent kind = let is = (absent_is wanted mentions of name held absent).2 in cc

  pub others_later : (name : RecordName) → same_kind name.kind of ≡ false → mentions name ≡ 0 → later name ≡ wanted name
  others_later name kind none = by (came (Withdraws wanted mentions of place) middle
      (rows_in absentees) name withdrawals)
    where
      by : Came (Withdraws wanted mentions of place) middle (rows_in absentees) name → later name ≡ wanted name
      by (inl same) = same ∙ unmoved name none
      by (inr it) =
          let (row, is, withdraws, name_is) = it in
          let (held, absent, made) = withdraws in
          absurd (other_kind name held (subst (λ n. absent_row wanted mentions of n ≡ Some held) name_is absent) kind)

  -- ---- the same snapshot again

  abbrev Stays : Row → Type 0
  Stays row = later (row_name row) ≡ Some row

  named_later : AreNamed later
  named_later = named_after middle (rows_in absentees) (named_after wanted (rows_in file) named)

  again_row : (at : ℕ) (said : Said) (made : Row) → Settled wanted mentions later said
      → numbered_record later mentions at said ≡ Ok made → Stays made
  again_row at (Err rejected) made is e =
      absurd (none_of (record_row later mentions at (Err rejected) made named_later e).2 e)
    where
      none_of : is_repeated mentions rejected.name ≡ false → numbered_record later mentions at (Err rejected)
          ≡ Ok made → ⊥
      none_of once e = let fault = rw once at e in cc
  again_row at (Ok row) made is e =
      let its = record_row later mentions at (Ok row) made named_later e in
      let alone : at_place at (numbered_row (later (row_name row)) row) ≡ Ok made = rw its.2 at e in
      let again : numbered_row (later (row_name row)) row
      ≡ Ok made = placed at (numbered_row (later (row_name row)) row) made alone in
      let was : later (row_name row) ≡ settled (wanted (row_name row)) row = is its.2 in
      let made_is : settled (wanted (row_name row)) row ≡ Some made = settled_twice (wanted (row_name row)) row made
      (subst (λ o. numbered_row o row ≡ Ok made) was again) in
      let name : row_name row ≡ row_name made = same_some (row_name row) (row_name made) its.1 in
      subst (λ n. later n ≡ Some made) name (was ∙ made_is)
    where
      same_some : (a b : RecordName) → Some a ≡ Some b → a ≡ b
      same_some a b s = cc

  -- no absent record is in force any more, unless it has no next revision
  no_more : (name : RecordName) (held made : Row) → unsure is_closed records ≡ None
      → absent_row later mentions of name ≡ Some held → numbered_withdrawn place held ≡ Ok made → ⊥
  no_more name held made sure absent e =
      let (is, force, kind, unheard_of) = absent_is later mentions of name held absent in
      let none : mentions name ≡ 0 = eqb-true (mentions name) 0 unheard_of in
      by is force kind none (came (Withdraws wanted mentions of place) middle (rows_in absentees) name withdrawals)
    where
      clash : (row : Row) → is_in_force row ≡ true → is_in_force row ≡ false → ⊥
      clash row a b = cc

      by : later name ≡ Some held → is_in_force held ≡ true → same_kind name.kind of ≡ true → mentions name ≡ 0
          → Came (Withdraws wanted mentions of place) middle (rows_in absentees) name → ⊥
      by is force kind none (inl same) =
          let was : wanted name ≡ Some held = sym (unmoved name none) ∙ sym same ∙ is in
          let made_is : later name ≡ Some made = withdrawn_there name held made was
          (absent_here name held was force kind none) e sure in
          let one_is : held ≡ made = some_row held made (sym is ∙ made_is) in
          clash held force (subst (λ r. is_in_force r ≡ false) (sym one_is) (not_in_force place held made e))
      by is force kind none (inr it) =
          let (row, row_is, withdraws, name_is) = it in
          let (other, absent_other, e_other) = withdraws in
          let one_is : held ≡ row = some_row held row (sym is ∙ row_is) in
          clash held force (subst (λ r. is_in_force r ≡ false) (sym one_is) (not_in_force place other row e_other))

  pub again_all : (others : List RecordName)
      → AllByRecursion Stays (rows_in (numbered later others of records is_closed))
  unfolding numbered
  again_all others =
      all_both Stays (numbered_file later mentions 1 records) _
      (all_file_of Stays (Settled wanted mentions later) later mentions 1 records again_row settled_later)
      (if_sure Stays (unsure is_closed records) (numbered_absent later mentions of place others)
      (λ sure. all_absent Stays later mentions of place others
      (λ name held made is e. absurd (no_more name held made sure is e))))
