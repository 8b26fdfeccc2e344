-- What the connector makes of the rows that are offered for a snapshot.
use Rattle.std.proofs.Common.{◌≡◌, ℕ, Bool, true, false, ◌&&◌, cond, List, [], ◌∷◌, Option, Some, None, is_none, is_some, Result, Ok, Err, refl, ap, sym, subst, ◌∙◌, inl, inr}
use Rattle.std.proofs.lemmas.Bool.{cases_Bool, false_from_ne_true}
use Rattle.std.specs.FinMap.{contains_key-keys, get, get-insert, insert, keys}
use Rattle.std.specs.List.{AllByRecursion, list_any}
use Rattle.std.specs.Option.{option_map}
use Rattle.std.specs.Ordering.{eq_by_cmp}
use Rattle.scim_key.proofs.RecordLaws.{same as same_names}
use Rattle.scim_key.proofs.RevisionLaws.{irreflexive}
use Rattle.scim_key.specs.RecordOrder.{names_tie, names_total, tied}
use Rattle.scim_key.specs.Records.{name_cmp, same_name}
use Rattle.scim_key.specs.Revisions.{before}
use Rattle.scim_key.specs.declared.records.Kind.{Kind}
use Rattle.scim_key.specs.declared.records.RecordName.{RecordName}
use Rattle.mapping.proofs.RowLemmas.{row_from_test, row_itself}
use Rattle.source_csv.specs.Records.{row_name, row_revision, same_row}
use Rattle.source_csv.specs.declared.rows.Row.{Row}
use Rattle.journal_core.proofs.Trees.{turned}
use Rattle.connector_core.specs.Accepting.{accepted, newer}
use Rattle.connector_core.specs.Book.{wanted_row, wanting}
use Rattle.connector_core.specs.Changing.{accepted_map, is_full, judged, limited, taking, taking_all, unknown_member, verdicts}
use Rattle.connector_core.specs.Maps.{BookMap, book_of}
use Rattle.connector_core.specs.declared.accepting.BookFault.{BookFault}
use Rattle.connector_core.specs.declared.accepting.BookFault.TheVariants as faults
use Rattle.connector_core.specs.declared.accepting.Verdict.{Verdict}
use Rattle.connector_core.specs.declared.accepting.Verdict.TheVariants as verdict
use Rattle.connector_core.specs.declared.changing.ChangeFault.{ChangeFault}
use Rattle.connector_core.specs.declared.knowledge.Known.{Known}
use Rattle.snapshots.proofs.After.{wanted_after, wanting_row}
use Rattle.snapshots.proofs.Twice.{AreListed, absent_later, again_all, later, later_is, others_later, present_later}
use Rattle.snapshots.specs.Laws.{AgainOffersNothing, AreNamed, HasNexts, IsAccepted, IsTaken, IsWanted, IsWithdrawn, SnapshotIsTaken, offered_by, rows_in}
use Rattle.snapshots.specs.Snapshots.{Said, Wanted, numbered}

abbrev pub wanted_in : BookMap → Wanted
wanted_in book = wanted_row (book_of book)

-- ---- a row that is known

known_limited : (no_room : Bool) (row : Row) (r : Result Verdict BookFault) → limited no_room row r ≡ Ok verdict.Known
    → r ≡ Ok verdict.Known
known_limited true row (Ok verdict.New) e = absurd (cc)
known_limited false row (Ok verdict.New) e = absurd (cc)
known_limited true row (Ok verdict.Known) e = refl
known_limited false row (Ok verdict.Known) e = refl
known_limited true row (Ok verdict.Older) e = absurd (cc)
known_limited false row (Ok verdict.Older) e = absurd (cc)
known_limited true row (Err faults.Differs) e = absurd (cc)
known_limited false row (Err faults.Differs) e = absurd (cc)
known_limited true row (Err (faults.NoSuchMember at)) e = absurd (cc)
known_limited false row (Err (faults.NoSuchMember at)) e = absurd (cc)

never_newer : (missing : Option ℕ) → newer missing ≡ Ok verdict.Known → ⊥
never_newer None e = cc
never_newer (Some at) e = cc

known_tests : (older next same : Bool) (missing : Option ℕ)
    → cond older (Ok verdict.Older) (cond next (newer missing) (cond same (Ok verdict.Known) (Err faults.Differs)))
    ≡ Ok verdict.Known → same ≡ true
known_tests true next same missing e = absurd (cc)
known_tests false true same missing e = absurd (never_newer missing e)
known_tests false false true missing e = refl
known_tests false false false missing e = absurd (cc)

known_accepted : (last : Option Row) (row : Row) (missing : Option ℕ) → accepted last row missing ≡ Ok verdict.Known
    → last ≡ Some row
known_accepted None row missing e = absurd (never_newer missing e)
known_accepted (Some held) row missing e =
    let same : same_row row held ≡ true = known_tests (before (row_revision row) (row_revision held))
    (before (row_revision held) (row_revision row)) (same_row row held) missing e in
    ap Some (sym (row_from_test row held same))

known_row : (book : BookMap) (row : Row) → judged book row ≡ Ok verdict.Known → wanted_in book (row_name row) ≡ Some row
known_row book row e =
    let last = wanted_in book (row_name row) in
    let missing = unknown_member (book_of book) row in
    let full = is_full (row_name row).kind (keys book) in
    known_accepted last row missing (known_limited (is_none last && full) row (accepted last row missing) e)

-- a wanted row is known
pub row_known : (book : BookMap) (row : Row) → wanted_in book (row_name row) ≡ Some row → judged book row
    ≡ Ok verdict.Known
row_known book row is =
    let missing = unknown_member (book_of book) row in
    let full = is_full (row_name row).kind (keys book) in
    let level : before (row_revision row) (row_revision row)
    ≡ false = false_from_ne_true _ (λ up. irreflexive (row_revision row) up) in
    let here : accepted (Some row) row missing ≡ Ok verdict.Known = rw (level, row_itself row) refl in
    subst (λ last. limited (is_none last && full) row (accepted last row missing) ≡ Ok verdict.Known) (sym is)
    (ap (limited false row) here)

-- ---- the book after rows

wanting_wants : (held : Option Known) (row : Row) → (wanting held row).wanted ≡ row
wanting_wants None row = refl
wanting_wants (Some known) row = refl

pub put_wants : (book : BookMap) (row : Row) (name : RecordName)
    → wanted_in (insert book (row_name row) (wanting (get book (row_name row)) row)) name
    ≡ wanting_row (wanted_in book) row name
put_wants book row name =
    let known = wanting (get book (row_name row)) row in
    let test : eq_by_cmp name_cmp name (row_name row) ≡ same_name (row_name row) name = turned name (row_name row)
    ∙ tied (row_name row) name in
    ap (option_map (λ (k : Known). k.wanted)) (get-insert names_total book (row_name row) known name
    ∙ ap (λ b. cond b (Some known) (get book name)) test)
    ∙ by_test known (same_name (row_name row) name) (get book name) (wanting_wants (get book (row_name row)) row)
  where
    by_test : (known : Known) (b : Bool) (held : Option Known) → known.wanted ≡ row
        → option_map (λ (k : Known). k.wanted) (cond b (Some known) held)
        ≡ cond b (Some row) (option_map (λ (k : Known). k.wanted) held)
    by_test known true held is = ap Some is
    by_test known false held is = refl

taken_by : (book : BookMap) (row : Row) (said : Result Verdict ChangeFault) → judged book row ≡ said → IsAccepted said
    → (name : RecordName)
    → wanted_in (accepted_map book row said) name ≡ wanting_row (wanted_in book) row name
taken_by book row (Ok verdict.New) is fine name = put_wants book row name
taken_by book row (Ok verdict.Known) is fine name = elim (cases_Bool (same_name (row_name row) name)) [
  | inl e ↦ sym (ap (wanted_in book) ((same_names (row_name row) name).0 e)) ∙ known_row book row is ∙ sym (rw e refl)
  | inr e ↦ sym (rw e refl)
]
taken_by book row (Ok verdict.Older) is fine name = absurd fine
taken_by book row (Err fault) is fine name = absurd fine

takes : (book : BookMap) (rows : List Row) → AllByRecursion IsAccepted (verdicts book rows) → (name : RecordName)
    → wanted_in (taking_all book rows) name ≡ wanted_after (wanted_in book) rows name
takes book [] all name = refl
takes book (row ∷ rows) all name =
    let one : wanted_in (taking book row) ≡ wanting_row (wanted_in book) row = λ i n. taken_by book row
    (judged book row) refl all.0 n i in
    takes (taking book row) rows all.1 name ∙ ap (λ w. wanted_after w rows name) one

-- rows that are wanted already
known_all : (book : BookMap) (rows : List Row) → AllByRecursion (λ row. wanted_in book (row_name row) ≡ Some row) rows
    → AllByRecursion (λ said. said ≡ Ok verdict.Known) (verdicts book rows)
known_all book [] all = tt
known_all book (row ∷ rows) all =
    let known = row_known book row all.0 in
    let same : taking book row ≡ book = ap (accepted_map book row) known in (
      known,
      subst (λ b. AllByRecursion (λ said. said ≡ Ok verdict.Known) (verdicts b rows)) (sym same)
          (known_all book rows all.1),
    )

-- ---- the names of a book

there_is : (held : Option Known) (row : Row) → option_map (λ (k : Known). k.wanted) held ≡ Some row → is_some held
    ≡ true
there_is None row e = absurd (cc)
there_is (Some known) row e = refl

are_listed : (book : BookMap) → AreListed (wanted_in book) (keys book)
are_listed book name row is =
    let tests : same_name name ≡ eq_by_cmp name_cmp name = λ i other. names_tie name other i in
    ap (λ t. list_any t (keys book)) tests ∙ sym (contains_key-keys book name) ∙ there_is (get book name) row is

-- ---- the laws

module _ (book : BookMap) (of : Kind) (records : List Said) (is_closed : Bool) (named : AreNamed (wanted_in book))
    (all : AllByRecursion IsAccepted (verdicts book (offered_by book of records is_closed))) where
  after_it : wanted_in (taking_all book (offered_by book of records is_closed))
      ≡ later (wanted_in book) (keys book) of records is_closed named (are_listed book)
  after_it = (λ i name. takes book (offered_by book of records is_closed) all name i)
      ∙ later_is (wanted_in book) (keys book) of records is_closed named (are_listed book)

  taken_so : HasNexts (wanted_in book) → IsTaken book (taking_all book (offered_by book of records is_closed)) of
      records is_closed
  taken_so next = record {
    present = subst (λ w. AllByRecursion (IsWanted w records) records) (sym after_it)
        (present_later (wanted_in book) (keys book) of records is_closed named (are_listed book) next);
    absent = λ sure name kind none. subst (λ w. IsWithdrawn (w name)) (sym after_it)
        (absent_later (wanted_in book) (keys book) of records is_closed named (are_listed book) next name sure kind
        none);
    others = λ name kind none. ap (λ w. w name) after_it
        ∙ others_later (wanted_in book) (keys book) of records is_closed named (are_listed book) name kind none;
  }

  again_so : AllByRecursion (λ said. said ≡ Ok verdict.Known)
      (verdicts (taking_all book (offered_by book of records is_closed))
      (offered_by (taking_all book (offered_by book of records is_closed)) of records is_closed))
  again_so =
      known_all (taking_all book (offered_by book of records is_closed)) _
      (subst (λ w. AllByRecursion (λ row. w (row_name row) ≡ Some row)
      (rows_in (numbered w (keys (taking_all book (offered_by book of records is_closed))) of records is_closed)))
      (sym after_it)
      (again_all (wanted_in book) (keys book) of records is_closed named (are_listed book)
      (keys (taking_all book (offered_by book of records is_closed)))))

pub snapshot_is_taken : SnapshotIsTaken
snapshot_is_taken book of records is_closed named next all = taken_so book of records is_closed named all next

pub again_offers_nothing : AgainOffersNothing
again_offers_nothing book of records is_closed named all = again_so book of records is_closed named all
