-- The accepted rows of a record strictly rise and stay, and their members are user records.
use Rattle.std.proofs.Common.{◌≡◌, ◌≢◌, ℕ, List, [], ◌∷◌, ◌++◌, true, false, Option, Some, None, is_some, Result, Ok, Err, refl, ap, sym, ◌∙◌, inl, inr, append_assoc}
use Rattle.std.proofs.lemmas.Bool.{and_parts, cases_Bool, false_from_ne_true}
use Rattle.std.proofs.lemmas.List.{append-nil}
use Rattle.std.specs.List.{AllByRecursion, last_or, list_all}
use Rattle.scim_key.proofs.RecordLaws.{same}
use Rattle.scim_key.proofs.RevisionLaws.{none_first, transitive}
use Rattle.scim_key.specs.Revisions.{◌≺◌, ◌≼◌}
use Rattle.scim_key.specs.declared.records.RecordName.{RecordName}
use Rattle.source_csv.specs.Records.{row_name, row_revision}
use Rattle.source_csv.specs.declared.rows.Row.{Row}
use Rattle.connector_core.specs.Accepting.{HistoriesRise, NewRowsGoOn, after_verdict, accepting, history_after}
use Rattle.connector_core.specs.History.{AllAreUsers, AllRise, History, MembersAreUsers, Rises, is_user, last_row, members_of, revision_if, rows_of, same_name, user}
use Rattle.connector_core.specs.declared.accepting.BookFault.{BookFault}
use Rattle.connector_core.specs.declared.accepting.Verdict.{Verdict}
use Rattle.connector_core.specs.declared.accepting.Verdict.TheVariants.{New, Known, Older}
use Rattle.connector_core.proofs.Acceptance.{new_has_users, new_is_newer, not_before_earlier}

-- one more row at the end
all_push : (P : Row → Type 0) (rows : List Row) (row : Row) → AllByRecursion P rows → P row → AllByRecursion P (rows ++ row ∷ [])
all_push P [] row all here = (here, tt)
all_push P (r ∷ rows) row all here = (all.0, all_push P rows row all.1 here)

below_last : (first : Row) (rows : List Row) (row : Row) → Rises (first ∷ rows) → ((held : Row) → last_or (Some first) rows ≡ Some held → row_revision held ≺ row_revision row)
    → row_revision first ≺ row_revision row
below_last first [] row rises last = last first refl
below_last first (r ∷ rows) row rises last = transitive (row_revision first) (row_revision r) (row_revision row) rises.0.0 (below_last r rows row rises.1 last)

rises_push : (rows : List Row) (row : Row) → Rises rows → ((held : Row) → last_or None rows ≡ Some held → row_revision held ≺ row_revision row) → Rises (rows ++ row ∷ [])
rises_push [] row rises last = (tt, tt)
rises_push (r ∷ []) row rises last = ((last r refl, tt), (tt, tt))
rises_push (r ∷ s ∷ rows) row rises last =
    (all_push (λ later. row_revision r ≺ row_revision later) (s ∷ rows) row rises.0 (below_last r (s ∷ rows) row rises last), rises_push (s ∷ rows) row rises.1 last)

rows_of-push : (history : History) (row : Row) (name : RecordName) → rows_of (history ++ row ∷ []) name ≡ rows_of history name ++ rows_of (row ∷ []) name
rows_of-push [] row name = refl
rows_of-push (r ∷ history) row name = elim (cases_Bool (same_name (row_name r) name)) [
  | inl e ↦ rw (e, rows_of-push history row name)
  | inr e ↦ rw (e, rows_of-push history row name)
]

push_rises : (history : History) (row : Row) → AllRise history → accepting history row ≡ Ok New → AllRise (history ++ row ∷ [])
push_rises history row rises e name = rw (rows_of-push history row name) (elim (cases_Bool (same_name (row_name row) name)) [
  | inl here ↦
      let named : row_name row ≡ name = (same (row_name row) name).0 here in
      rw here (rises_push (rows_of history name) row (rises name) (rw named at (new_is_newer history row e)))
  | inr other ↦ rw (other, append-nil (rows_of history name)) (rises name)
])

verdict_rises : (history : History) (row : Row) (answer : Result Verdict BookFault) → accepting history row ≡ answer → AllRise history → AllRise (after_verdict history row answer)
verdict_rises history row (Ok New) e rises = push_rises history row rises e
verdict_rises history row (Ok Known) e rises = rises
verdict_rises history row (Ok Older) e rises = rises
verdict_rises history row (Err fault) e rises = rises

all_rise : (history : History) (offered : List Row) → AllRise history → AllRise (history_after history offered)
all_rise history [] rises = rises
all_rise history (row ∷ offered) rises =
    all_rise (after_verdict history row (accepting history row)) offered (verdict_rises history row (accepting history row) refl rises)

-- and none is lost or changed later
abbrev Stays : History → History → RecordName → Type 0
Stays before after name = (later : List Row) × (rows_of after name ≡ rows_of before name ++ later)

verdict_stays : (history : History) (row : Row) (answer : Result Verdict BookFault) (name : RecordName) → Stays history (after_verdict history row answer) name
verdict_stays history row (Ok New) name = (rows_of (row ∷ []) name, rows_of-push history row name)
verdict_stays history row (Ok Known) name = ([], sym (append-nil (rows_of history name)))
verdict_stays history row (Ok Older) name = ([], sym (append-nil (rows_of history name)))
verdict_stays history row (Err fault) name = ([], sym (append-nil (rows_of history name)))

all_stay : (history : History) (offered : List Row) (name : RecordName) → Stays history (history_after history offered) name
all_stay history [] name = ([], sym (append-nil (rows_of history name)))
all_stay history (row ∷ offered) name =
    let (next, first) = verdict_stays history row (accepting history row) name in
    let (later, rest) = all_stay (after_verdict history row (accepting history row)) offered name in
    (next ++ later, rest ∙ ap (λ (rows : List Row). rows ++ later) first ∙ append_assoc (rows_of history name) next later)

-- a user record stays one, so members stay user records
last_push : (rows : List Row) (row : Row) (o : Option Row) → last_or o (rows ++ row ∷ []) ≡ Some row
last_push [] row o = refl
last_push (r ∷ rows) row o = last_push rows row (Some r)

last_stays : (rows more : List Row) (o : Option Row) → is_some (last_or o rows) ≡ true → is_some (last_or o (rows ++ more)) ≡ true
last_stays [] [] o some = some
last_stays [] (row ∷ more) o some = last_stays [] more (Some row) refl
last_stays (r ∷ rows) more o some = last_stays rows more (Some r) some

user_stays : (history : History) (row : Row) (key : List ℕ) → is_user history key ≡ true → is_user (history ++ row ∷ []) key ≡ true
user_stays history row key some =
    rw (rows_of-push history row (user key)) (last_stays (rows_of history (user key)) (rows_of (row ∷ []) (user key)) None some)

users_stay : (history : History) (row : Row) (keys : List (List ℕ)) → list_all (is_user history) keys ≡ true → list_all (is_user (history ++ row ∷ [])) keys ≡ true
users_stay history row [] all = refl
users_stay history row (key ∷ keys) all =
    let parts = and_parts (is_user history key) (list_all (is_user history) keys) all in
    rw (user_stays history row key parts.0) (users_stay history row keys parts.1)

all_stay_users : (history : History) (row : Row) (rows : List Row) → AllByRecursion (AllAreUsers history) rows → AllByRecursion (AllAreUsers (history ++ row ∷ [])) rows
all_stay_users history row [] all = tt
all_stay_users history row (r ∷ rows) all = (users_stay history row (members_of r) all.0, all_stay_users history row rows all.1)

push_members : (history : History) (row : Row) → accepting history row ≡ Ok New → MembersAreUsers history → MembersAreUsers (history ++ row ∷ [])
push_members history row e all =
    all_push (AllAreUsers (history ++ row ∷ [])) history row (all_stay_users history row history all) (users_stay history row (members_of row) (new_has_users history row e))

verdict_members : (history : History) (row : Row) (answer : Result Verdict BookFault) → accepting history row ≡ answer → MembersAreUsers history → MembersAreUsers (after_verdict history row answer)
verdict_members history row (Ok New) e all = push_members history row e all
verdict_members history row (Ok Known) e all = all
verdict_members history row (Ok Older) e all = all
verdict_members history row (Err fault) e all = all

all_members : (history : History) (offered : List Row) → MembersAreUsers history → MembersAreUsers (history_after history offered)
all_members history [] all = all
all_members history (row ∷ offered) all =
    all_members (after_verdict history row (accepting history row)) offered (verdict_members history row (accepting history row) refl all)

-- one new row
record_goes_on : (history : History) (row : Row) → rows_of (history ++ row ∷ []) (row_name row) ≡ rows_of history (row_name row) ++ row ∷ []
record_goes_on history row = rows_of-push history row (row_name row) ∙ rw ((same (row_name row) (row_name row)).1 refl) refl

others_stay : (history : History) (row : Row) (name : RecordName) → name ≢ row_name row → rows_of (history ++ row ∷ []) name ≡ rows_of history name
others_stay history row name other =
    let differ : same_name (row_name row) name ≡ false = false_from_ne_true _ (λ e. other (sym ((same (row_name row) name).0 e))) in
    rows_of-push history row name ∙ rw differ (append-nil (rows_of history name))

wanted_before : (held : Option Row) (row : Row) → ((last : Row) → held ≡ Some last → row_revision last ≺ row_revision row) → revision_if held ≼ row_revision row
wanted_before None row above = none_first (row_revision row)
wanted_before (Some last) row above = not_before_earlier (row_revision last) (row_revision row) (above last refl)

pub goes_on : NewRowsGoOn
goes_on history row e = record {
  of_record = record_goes_on history row;
  others = others_stay history row;
  last = ap (last_or None) (record_goes_on history row) ∙ last_push (rows_of history (row_name row)) row None;
  never_back = wanted_before (last_row history (row_name row)) row (new_is_newer history row e);
  rises = λ rises. push_rises history row rises e;
  members = push_members history row e;
}

pub histories : HistoriesRise
histories = record {
  rises = λ offered. all_rise [] offered (λ name. tt);
  members = λ offered. all_members [] offered tt;
  stays = all_stay;
}
