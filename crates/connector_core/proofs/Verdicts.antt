-- What a verdict says about the book.
use Rattle.std.proofs.Common.{◌≡◌, ℕ, ◌<◌, ◌+◌, Bool, true, false, cond, ◌&&◌, List, [], ◌∷◌, Option, Some, None, IsSome, is_none, Result, Ok, Err, refl, ap, sym, subst, ◌∙◌, arith, inl, inr, nat_le}
use Rattle.std.proofs.lemmas.Bool.{cases_Bool}
use Rattle.std.proofs.lemmas.Bool.Decides.{nat_tests}
use Rattle.std.proofs.lemmas.List.Elements.{All-cons, All-nil, All-weaker}
use Rattle.std.specs.FinMap.{get, keys}
use Rattle.std.specs.List.{All, position_from}
use Rattle.std.specs.Option.{option_map}
use Rattle.scim_key.proofs.RevisionLaws.{transitive}
use Rattle.scim_key.specs.Revisions.{RevisionValue, before, ◌≺◌, ◌≼◌}
use Rattle.source_csv.specs.Records.{row_name, row_revision, same_row}
use Rattle.source_csv.specs.declared.rows.Row.{Row}
use Rattle.journal_core.specs.Entries.{EntryMap, CanPutRow, count_of, most_records}
use Rattle.journal_core.specs.declared.entries.Entry.{Entry}
use Rattle.connector_core.specs.Accepting.{accepted, newer}
use Rattle.connector_core.specs.History.{members_of, user}
use Rattle.connector_core.specs.declared.accepting.BookFault.{BookFault}
use Rattle.connector_core.specs.declared.accepting.BookFault.TheVariants as faults
use Rattle.connector_core.specs.declared.accepting.Verdict.{Verdict}
use Rattle.connector_core.specs.declared.accepting.Verdict.TheVariants as verdicts
use Rattle.connector_core.specs.Changing.{is_full, judging, limited, unknown_member}
use Rattle.connector_core.specs.Maps.{BookMap, book_of}
use Rattle.connector_core.specs.State.{IsKept, entry_of}
use Rattle.connector_core.specs.declared.knowledge.Known.{Known}

-- if one revision isn't above another, which is below a third, the first is not above the third
pub below-later : (a b c : RevisionValue) → a ≼ b → b ≺ c → a ≼ c
below-later a b c p q = elim (cases_Bool (before c a)) [
  | inl above ↦ absurd (clash (before b a) p (transitive b c a q above))
  | inr below ↦ below
]
  where
    clash : (t : Bool) → t ≡ false → t ≡ true → ⊥
    clash t e f = cc

-- a new row has room, if it is the first of its record, and is accepted
new-limited : (no_room : Bool) (row : Row) (r : Result Verdict BookFault) → limited no_room row r ≡ Ok verdicts.New → (no_room ≡ false) × (r ≡ Ok verdicts.New)
new-limited true row (Ok verdicts.New) e = absurd (cc)
new-limited false row (Ok verdicts.New) e = (refl, refl)
new-limited true row (Ok verdicts.Known) e = absurd (cc)
new-limited false row (Ok verdicts.Known) e = absurd (cc)
new-limited true row (Ok verdicts.Older) e = absurd (cc)
new-limited false row (Ok verdicts.Older) e = absurd (cc)
new-limited true row (Err faults.Differs) e = absurd (cc)
new-limited false row (Err faults.Differs) e = absurd (cc)
new-limited true row (Err (faults.NoSuchMember place)) e = absurd (cc)
new-limited false row (Err (faults.NoSuchMember place)) e = absurd (cc)

new-newer : (missing : Option ℕ) → newer missing ≡ Ok verdicts.New → missing ≡ None
new-newer None e = refl
new-newer (Some place) e = absurd (cc)

new-tests : (older later same : Bool) (missing : Option ℕ)
    → cond older (Ok verdicts.Older) (cond later (newer missing) (cond same (Ok verdicts.Known) (Err faults.Differs))) ≡ Ok verdicts.New → (later ≡ true) × (missing ≡ None)
new-tests true later same missing e = absurd (cc)
new-tests false true same missing e = (refl, new-newer missing e)
new-tests false false true missing e = absurd (cc)
new-tests false false false missing e = absurd (cc)

-- a new row comes after the last one, if there is one, and misses no member
new-accepted : (last : Option Row) (row : Row) (missing : Option ℕ) → accepted last row missing ≡ Ok verdicts.New
    → ((held : Row) → last ≡ Some held → row_revision held ≺ row_revision row) × (missing ≡ None)
new-accepted None row missing e = ((λ held is. absurd (cc)), new-newer missing e)
new-accepted (Some held) row missing e =
    let found = new-tests (before (row_revision row) (row_revision held)) (before (row_revision held) (row_revision row)) (same_row row held) missing e in
    ((λ other is. let same : held ≡ other = cc in subst (λ r. row_revision r ≺ row_revision row) same found.0), found.1)

missing-next : (b : Bool) (test : List ℕ → Bool) (i : ℕ) (k : List ℕ) (ks : List (List ℕ)) (rest : Option ℕ) → test k ≡ b → (rest ≡ None → All (λ key. test key ≡ false) ks)
    → cond b (Some i) rest ≡ None → All (λ key. test key ≡ false) (k ∷ ks)
missing-next true test i k ks rest is all e = absurd (cc)
missing-next false test i k ks rest is all e = All-cons (λ key. test key ≡ false) k ks is (all e)

none-missing : (test : List ℕ → Bool) (i : ℕ) (ks : List (List ℕ)) → position_from test i ks ≡ None → All (λ key. test key ≡ false) ks
none-missing test i [] e = All-nil (λ key. test key ≡ false)
none-missing test i (k ∷ ks) e = missing-next (test k) test i k ks (position_from test (i + 1) ks) refl (λ none. none-missing test (i + 1) ks none) e

-- what is said about a new row
pub record IsNew (book : BookMap) (row : Row) : Type 0 where
  pub above : (known : Known) → get book (row_name row) ≡ Some known → row_revision known.wanted ≺ row_revision row
  pub members : All (λ key. is_none (get book (user key)) ≡ false) (members_of row)
  pub room : get book (row_name row) ≡ None → is_full (row_name row).kind (keys book) ≡ false

full-false : (o : Option Known) (full : Bool) → (is_none (option_map (λ (known : Known). known.wanted) o) && full) ≡ false → o ≡ None → full ≡ false
full-false None full e none = e
full-false (Some known) full e none = absurd (cc)

pub new-row : (book : BookMap) (row : Row) → judging (book_of book) (keys book) row ≡ Ok verdicts.New → IsNew book row
new-row book row e =
    let full = is_full (row_name row).kind (keys book) in
    let last = option_map (λ (known : Known). known.wanted) (get book (row_name row)) in
    let missing = unknown_member (book_of book) row in
    let fit = new-limited (is_none last && full) row (accepted last row missing) e in
    let found = new-accepted last row missing fit.1 in
    record {
      above = λ known here. found.0 known.wanted (ap (option_map (λ (k : Known). k.wanted)) here);
      members = none-missing (λ key. is_none (get book (user key))) 0 (members_of row) found.1;
      room = λ none. full-false (get book (row_name row)) full fit.0 none;
    }

-- ---- it may be put into the journal

not-full : (most count : ℕ) → nat_le most count ≡ false → count < most
not-full most count e = grind (arith, nat_tests)

held-known : (o : Option Known) (entry : Entry) → option_map entry_of o ≡ Some entry → (known : Known) × (o ≡ Some known) × (entry_of known ≡ entry)
held-known None entry e = absurd (cc)
held-known (Some known) entry e = (known, refl, (let same : entry_of known ≡ entry = cc in same))

none-known : (o : Option Known) → option_map entry_of o ≡ None → o ≡ None
none-known None e = refl
none-known (Some known) e = absurd (cc)

some-entry : (o : Option Known) → is_none o ≡ false → IsSome (option_map entry_of o)
some-entry None e = absurd (cc)
some-entry (Some known) e = refl

pub not-below : (kept : EntryMap) (book : BookMap) (row : Row) → IsKept kept book → IsNew book row → (known : Known) → get book (row_name row) ≡ Some known → known.confirmed ≼ row_revision row
not-below kept book row is new known here = below-later known.confirmed (row_revision known.wanted) (row_revision row) (is.within (row_name row) known here).within (new.above known here)

members-there : (kept : EntryMap) (book : BookMap) → IsKept kept book → (ks : List (List ℕ)) → All (λ key. is_none (get book (user key)) ≡ false) ks → All (λ key. IsSome (get kept (user key))) ks
members-there kept book is ks all = All-weaker (λ key. is_none (get book (user key)) ≡ false) (λ key. IsSome (get kept (user key)))
    (λ key here. subst IsSome (sym (is.same (user key))) (some-entry (get book (user key)) here)) ks all

pub can-put : (kept : EntryMap) (book : BookMap) (row : Row) → IsKept kept book → IsNew book row → CanPutRow kept row
can-put kept book row is new = record {
  not_below = λ entry here.
      let held = held-known (get book (row_name row)) entry (sym (is.same (row_name row)) ∙ here) in
      subst (λ e. e.confirmed ≼ row_revision row) held.2 (not-below kept book row is new held.0 held.1);
  members = members-there kept book is (members_of row) new.members;
  room = λ none.
      let free = new.room (none-known (get book (row_name row)) (sym (is.same (row_name row)) ∙ none)) in
      subst (λ names. count_of (row_name row).kind names < most_records (row_name row).kind) (sym is.names) (not-full _ _ free);
}
