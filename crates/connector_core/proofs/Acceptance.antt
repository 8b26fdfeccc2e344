-- The verdict by the last row is the acceptance by the history.
use Rattle.std.proofs.Common.{◌≡◌, ◌+◌, ℕ, suc, List, [], ◌∷◌, ◌++◌, Bool, true, false, not, Option, Some, None, Result, Ok, length, refl, ap, sym, subst, ◌∙◌, inl, inr, arith, add-zero, zero-add}
use Rattle.std.proofs.lemmas.Bool.{and_parts, cases_Bool, false≢true, false_from_ne_true}
use Rattle.std.specs.List.{list_all, position_from}
use Rattle.scim_key.proofs.RevisionLaws.{irreflexive, transitive, total}
use Rattle.scim_key.specs.Revisions.{RevisionValue, before, ◌≺◌}
use Rattle.mapping.proofs.RowLemmas.{row_from_test, row_itself}
use Rattle.source_csv.specs.Records.{row_name, row_revision, same_row}
use Rattle.source_csv.specs.declared.rows.Row.{Row}
use Rattle.connector_core.specs.Accepting.{Accepts, Accepts.older, Accepts.known, Accepts.differs, Accepts.missing, Accepts.new, IsNewer, accepted, accepting, newer}
use Rattle.connector_core.specs.History.{AllAreUsers, History, is_user, last_row, members_of, missing_member}
use Rattle.connector_core.specs.declared.accepting.BookFault.{BookFault}
use Rattle.connector_core.specs.declared.accepting.Verdict.{Verdict}
use Rattle.connector_core.specs.declared.accepting.Verdict.TheVariants.{New}

-- a revision doesn't come before itself, nor before one that comes before it
not_before_itself : (a b : RevisionValue) → a ≡ b → before a b ≡ false
not_before_itself a b same = false_from_ne_true _ (λ lt. irreflexive b (rw same at lt))

pub not_before_earlier : (a b : RevisionValue) → a ≺ b → before b a ≡ false
not_before_earlier a b lt = false_from_ne_true _ (λ back. irreflexive a (transitive a b a lt back))

-- the first member that is no user record
module _ (test : List ℕ → Bool) where
  found_at : (earlier later : List (List ℕ)) (key : List ℕ) (start : ℕ) → list_all test earlier ≡ true → test key ≡ false
      → position_from (λ k. not (test k)) start (earlier ++ key ∷ later) ≡ Some (start + length earlier)
  found_at [] later key start all none = rw none (ap Some (sym (add-zero start)))
  found_at (k ∷ earlier) later key start all none =
      let parts = and_parts (test k) (list_all test earlier) all in
      let place : start + 1 + length earlier ≡ start + suc (length earlier) = omega arith in
      rw parts.0 (found_at earlier later key (start + 1) parts.1 none ∙ ap Some place)

  found_nowhere : (keys : List (List ℕ)) (start : ℕ) → list_all test keys ≡ true → position_from (λ k. not (test k)) start keys ≡ None
  found_nowhere [] start all = refl
  found_nowhere (k ∷ keys) start all =
      let parts = and_parts (test k) (list_all test keys) all in
      rw parts.0 (found_nowhere keys (start + 1) parts.1)

  nowhere_is_all : (keys : List (List ℕ)) (start : ℕ) → position_from (λ k. not (test k)) start keys ≡ None → list_all test keys ≡ true
  nowhere_is_all [] start none = refl
  nowhere_is_all (k ∷ keys) start none = elim (cases_Bool (test k)) [
    | inl e ↦ rw e (nowhere_is_all keys (start + 1) (rw e at none))
    | inr e ↦ absurd (cc (rw e at none))
  ]

  somewhere_is_first : (keys : List (List ℕ)) (start place : ℕ) → position_from (λ k. not (test k)) start keys ≡ Some place
      → (earlier : List (List ℕ)) × (key : List ℕ) × (later : List (List ℕ)) × (keys ≡ earlier ++ key ∷ later) × (start + length earlier ≡ place) × (list_all test earlier ≡ true) × (test key ≡ false)
  somewhere_is_first [] start place found = absurd (cc found)
  somewhere_is_first (k ∷ keys) start place found = elim (cases_Bool (test k)) [
    | inl e ↦
        let (earlier, key, later, split, at, all, none) = somewhere_is_first keys (start + 1) place (rw e at found) in
        (k ∷ earlier, key, later, ap (λ (ks : List (List ℕ)). k ∷ ks) split, omega (arith, at), rw e all, none)
    | inr e ↦
        let here : start ≡ place = cc (rw e at found) in
        ([], k, keys, refl, add-zero start ∙ here, refl, e)
  ]

above_is_newer : (held : Option Row) (row : Row) (member : Option ℕ) → ((last : Row) → held ≡ Some last → row_revision last ≺ row_revision row)
    → accepted held row member ≡ newer member
above_is_newer None row member above = refl
above_is_newer (Some last) row member above =
    let higher = above last refl in
    rw (not_before_earlier (row_revision last) (row_revision row) higher, higher)

-- the definition's answer, from the case that applies
pub answer_of : (history : History) (row : Row) (answer : Result Verdict BookFault) → Accepts history row answer → answer ≡ accepting history row
answer_of history row answer (older held last lt) = rw (last, lt)
answer_of history row answer (known held last same equal) =
    rw (last, not_before_itself (row_revision row) (row_revision held) same, not_before_itself (row_revision held) (row_revision row) (sym same), equal, row_itself held)
answer_of history row answer (differs held last same other) =
    let unlike : same_row row held ≡ false = false_from_ne_true _ (λ e. other (row_from_test row held e)) in
    rw (last, not_before_itself (row_revision row) (row_revision held) same, not_before_itself (row_revision held) (row_revision row) (sym same), unlike)
answer_of history row answer (missing place above (earlier, key, later, split, at, all, none)) =
    let found = ap (position_from (λ k. not (is_user history k)) 0) split ∙ found_at (is_user history) earlier later key 0 all none ∙ ap Some (zero-add (length earlier) ∙ at) in
    sym (above_is_newer (last_row history (row_name row)) row (missing_member history row) above ∙ ap newer found)
answer_of history row answer (new above all) =
    let found = found_nowhere (is_user history) (members_of row) 0 all in
    sym (above_is_newer (last_row history (row_name row)) row (missing_member history row) above ∙ ap newer found)

-- the case that applies, from the definition's answer
newer_case : (history : History) (row : Row) (member : Option ℕ) → IsNewer history row → missing_member history row ≡ member → Accepts history row (newer member)
newer_case history row None above found = new above (nowhere_is_all (is_user history) (members_of row) 0 found)
newer_case history row (Some place) above found =
    let (earlier, key, later, split, at, all, none) = somewhere_is_first (is_user history) (members_of row) 0 place found in
    missing place above (earlier, key, later, split, sym (zero-add (length earlier)) ∙ at, all, none)

held_case : (history : History) (row held : Row) → last_row history (row_name row) ≡ Some held → Accepts history row (accepted (Some held) row (missing_member history row))
held_case history row held last = elim (cases_Bool (before (row_revision row) (row_revision held))) [
  | inl lower ↦ rw lower (older held last lower)
  | inr not_lower ↦ elim (cases_Bool (before (row_revision held) (row_revision row))) [
    | inl higher ↦
        let above : IsNewer history row = λ other found. let same : other ≡ held = cc (last, found) in rw same higher in
        rw (not_lower, higher) (newer_case history row (missing_member history row) above refl)
    | inr not_higher ↦
        let same = total (row_revision row) (row_revision held) not_higher not_lower in
        elim (cases_Bool (same_row row held)) [
          | inl equal ↦ rw (not_lower, not_higher, equal) (known held last same (row_from_test row held equal))
          | inr other ↦ rw (not_lower, not_higher, other) (differs held last same (λ e. false≢true (sym other ∙ rw e (row_itself held))))
        ]
  ]
]

any_case : (history : History) (row : Row) (held : Option Row) → last_row history (row_name row) ≡ held → Accepts history row (accepted held row (missing_member history row))
any_case history row None last = newer_case history row (missing_member history row) (λ held found. absurd (cc (last, found))) refl
any_case history row (Some held) last = held_case history row held last

pub case_of : (history : History) (row : Row) (answer : Result Verdict BookFault) → answer ≡ accepting history row → Accepts history row answer
case_of history row answer e = subst (Accepts history row) (sym e) (any_case history row (last_row history (row_name row)) refl)

-- a row that is accepted as new is of a higher revision than the last one
pub new_is_newer : (history : History) (row : Row) → accepting history row ≡ Ok New → IsNewer history row
new_is_newer history row e = above_of (subst (Accepts history row) e (case_of history row (accepting history row) refl))
  where
    above_of : Accepts history row (Ok New) → IsNewer history row
    above_of (new above all) = above

-- and its members are user records
pub new_has_users : (history : History) (row : Row) → accepting history row ≡ Ok New → AllAreUsers history row
new_has_users history row e = users_of (subst (Accepts history row) e (case_of history row (accepting history row) refl))
  where
    users_of : Accepts history row (Ok New) → AllAreUsers history row
    users_of (new above all) = all
