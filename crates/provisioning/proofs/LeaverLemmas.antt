-- The users whom a run switches off, counted by the last rows of its files.
use Rattle.std.proofs.Common.{◌≡◌, ◌<◌, ℕ, ◌+◌, ◌&&◌, Bool, true, false, not, cond, List, [], ◌∷◌, ◌++◌, filter, get_or, length, take, Option, Some, None, Result, Ok, Err, refl, ap, sym, subst, ◌∙◌, inl, inr, arith}
use Rattle.std.proofs.lemmas.Bool.{and_parts, cases_Bool, false_from_ne_true}
use Rattle.std.proofs.lemmas.List.Sums.{sum_by-cons}
use Rattle.std.specs.BTreeMap.{Updates, get as get_in}
use Rattle.std.specs.FinMap.{get, get-insert, insert, keys}
use Rattle.std.specs.List.{count_by}
use Rattle.std.specs.Option.{option_map, option_or}
use Rattle.std.specs.Ordering.{eq_by_cmp}
use Rattle.scim_key.proofs.RecordLaws.{same as same_names, same_type}
use Rattle.scim_key.proofs.RevisionLaws.{irreflexive, same as same_revisions, transitive}
use Rattle.scim_key.specs.RecordOrder.{names_total, tied}
use Rattle.scim_key.specs.Records.{name_cmp, same_kind, same_name}
use Rattle.scim_key.specs.Revisions.{RevisionValue, before, no_revision, same_revision}
use Rattle.scim_key.specs.declared.records.Kind.TheVariants as kind
use Rattle.scim_key.specs.declared.records.RecordName.{RecordName}
use Rattle.source_csv.specs.Records.{row_name, row_revision, same_row}
use Rattle.source_csv.specs.declared.faults.RowFault.{RowFault}
use Rattle.source_csv.specs.declared.rows.Row.{Row}
use Rattle.source_csv.specs.declared.rows.Row.TheVariants.{User, Group}
use Rattle.journal_core.proofs.Trees.{turned}
use Rattle.journal_core.specs.declared.journals.Journal.{Ghosts}
use Rattle.connector_core.specs.Accepting.{accepted}
use Rattle.connector_core.specs.Book.{Book, confirmed_if, confirmed_of, wanted_if, wanted_row, wanting}
use Rattle.connector_core.specs.Changing.{accepted_map, is_full, judged, limited, taking, taking_all, unknown_member, verdict}
use Rattle.connector_core.specs.Maps.{BookMap, book_of}
use Rattle.connector_core.specs.State.{State}
use Rattle.connector_core.specs.declared.accepting.Verdict.{Verdict}
use Rattle.connector_core.specs.declared.accepting.Verdict.TheVariants.{New, Known as IsKnown, Older}
use Rattle.connector_core.specs.declared.changing.ChangeFault.{ChangeFault}
use Rattle.connector_core.specs.declared.knowledge.Known.{Known}
use Rattle.provisioning.proofs.OfferLemmas.{rows_next}
use Rattle.provisioning.specs.Leavers.{GoesAhead, IsAhead, IsKnownSo, TakesSources, group_rows, has_left, is_in_use, is_later, is_leaver, is_off_by, is_switched_off, last_in, last_of, leavers, leavers_by, taking_sources}
use Rattle.provisioning.specs.Offering.{OffersFile, OffersGroups, both, rows_in}
use Rattle.provisioning.specs.Sources.{records_of}
use Rattle.provisioning.specs.declared.faults.RunFault.{RunFault}
use Rattle.provisioning.specs.declared.leavers.Ahead.{Ahead}
use Rattle.provisioning.specs.declared.leavers.Last.{Last}
use Rattle.provisioning.specs.declared.offering.Judged.{Judged}
use Rattle.provisioning.specs.declared.sources.Source.{Source}
use Rattle.provisioning.specs.declared.sources.Sources.{Sources}

-- ---- what a row changes

put_gets : (book : BookMap) (row : Row) (known : Known) (name : RecordName)
    → get (insert book (row_name row) known) name ≡ cond (same_name (row_name row) name) (Some known) (get book name)
put_gets book row known name =
    let test : eq_by_cmp name_cmp name (row_name row) ≡ same_name (row_name row) name =
    turned name (row_name row) ∙ tied (row_name row) name in
    get-insert names_total book (row_name row) known name ∙ ap (λ b. cond b (Some known) (get book name)) test

-- a row changes no other record
other_kept : (book : BookMap) (row : Row) (said : Result Verdict ChangeFault) (name : RecordName)
    → same_name (row_name row) name ≡ false → get (accepted_map book row said) name ≡ get book name
other_kept book row (Ok New) name apart =
    put_gets book row (wanting (get book (row_name row)) row) name ∙ rw apart refl
other_kept book row (Ok IsKnown) name apart = refl
other_kept book row (Ok Older) name apart = refl
other_kept book row (Err fault) name apart = refl

-- ---- a row of a user whom the book has

no_member : (book : Book) (row : Row) → (row_name row).kind ≡ kind.User → unknown_member book row ≡ None
no_member book (User row) is = refl
no_member book (Group row) is = absurd (cc)

judged_user : (book : BookMap) (row : Row) (held : Known) → (row_name row).kind ≡ kind.User
    → get book (row_name row) ≡ Some held
    → judged book row ≡ limited false row (accepted (Some held.wanted) row None)
judged_user book row held user is =
    let full = is_full (row_name row).kind (keys book) in
    let last : wanted_row (book_of book) (row_name row) ≡ Some held.wanted =
    ap (option_map (λ (known : Known). known.wanted)) is in
    ap (λ l. verdict l (unknown_member (book_of book) row) full row) last
    ∙ ap (λ m. verdict (Some held.wanted) m full row) (no_member (book_of book) row user)

-- the record, with this row if it is newer
abbrev newest_by : (newer : Bool) → Known → Row → Known
newest_by true held row = wanting (Some held) row
newest_by false held row = held

newer_put : (book : BookMap) (row : Row) (held : Known) → get book (row_name row) ≡ Some held
    → get (insert book (row_name row) (wanting (get book (row_name row)) row)) (row_name row)
    ≡ Some (wanting (Some held) row)
newer_put book row held is =
    let itself : same_name (row_name row) (row_name row) ≡ true = (same_names (row_name row) (row_name row)).1 refl in
    put_gets book row (wanting (get book (row_name row)) row) (row_name row)
    ∙ ap (λ b. cond b (Some (wanting (get book (row_name row)) row)) (get book (row_name row))) itself
    ∙ ap (λ known. Some (wanting known row)) is

taken_user : (book : BookMap) (row : Row) (held : Known) → (row_name row).kind ≡ kind.User
    → get book (row_name row) ≡ Some held → get (taking book row) (row_name row)
    ≡ Some (newest_by (before (row_revision held.wanted) (row_revision row)) held row)
taken_user book row held user is =
    ap (λ said. get (accepted_map book row said) (row_name row)) (judged_user book row held user is) ∙ tests
  where
    now : RevisionValue
    now = row_revision row

    then_ : RevisionValue
    then_ = row_revision held.wanted

    tests : get (accepted_map book row (limited false row (accepted (Some held.wanted) row None))) (row_name row)
        ≡ Some (newest_by (before then_ now) held row)
    tests = elim (cases_Bool (before now then_)) [
      | inl older ↦
          let not_newer : before then_ now ≡ false =
          false_from_ne_true _ (λ up. irreflexive now (transitive now then_ now older up)) in
          rw (older, not_newer) is
      | inr level ↦ elim (cases_Bool (before then_ now)) [
        | inl newer ↦ rw (level, newer) (newer_put book row held is)
        | inr same ↦ elim (cases_Bool (same_row row held.wanted)) [
          | inl known ↦ rw (level, same, known) is
          | inr differs ↦ rw (level, same, differs) is
        ]
      ]
    ]

-- the record of this name, with this row if it is the record's and newer
abbrev newest : Known → RecordName → Row → Known
newest held name row =
    newest_by (same_name (row_name row) name && before (row_revision held.wanted) (row_revision row)) held row

one_taken : (book : BookMap) (row : Row) (name : RecordName) (held : Known) → name.kind ≡ kind.User
    → get book name ≡ Some held → get (taking book row) name ≡ Some (newest held name row)
one_taken book row name held user is = elim (cases_Bool (same_name (row_name row) name)) [
  | inl e ↦
      let same : row_name row ≡ name = (same_names (row_name row) name).0 e in
      let here = taken_user book row held (ap (λ (n : RecordName). n.kind) same ∙ user) (ap (get book) same ∙ is) in
      rw e (ap (get (taking book row)) (sym same) ∙ here)
  | inr e ↦ rw e (other_kept book row (judged book row) name e ∙ is)
]

newest_confirmed : (newer : Bool) (held : Known) (row : Row) → (newest_by newer held row).confirmed ≡ held.confirmed
newest_confirmed true held row = refl
newest_confirmed false held row = refl

-- ---- one row more

-- how a record is known
known_so : (said : Option Last) (confirmed : RevisionValue) (found : Option Known) → IsKnownSo said confirmed found
    → (held : Known) × (found ≡ Some held) × (said ≡ Some (last_of held.wanted)) × (held.confirmed ≡ confirmed)
known_so said confirmed None so = absurd so
known_so said confirmed (Some held) so = (held, refl, so.0, so.1)

goes_by : (book : BookMap) (old new : Ahead) (row : Row)
    → ((name : RecordName) (held : Known) → name.kind ≡ kind.User → last_in old book name ≡ Some (last_of held.wanted)
    → last_in new book name ≡ Some (last_of (newest held name row).wanted))
    → GoesAhead book old new (row ∷ [])
goes_by book old new row says later is name known user there =
    let (held, found, said, confirmed) = known_so (last_in old book name) known.confirmed (get later name) (is name known user there) in
    subst (IsKnownSo (last_in new book name) known.confirmed) (sym (one_taken later row name held user found)) (
      says name held user said,
      newest_confirmed (same_name (row_name row) name && before (row_revision held.wanted) (row_revision row)) held row
          ∙ confirmed,
    )

-- what a record's last row says, where another row is known to be later or not
module _ (book : BookMap) (old : Ahead) (row : Row) where
  last_later : (name : RecordName) (held : Known) (later : Bool) → row_name row ≡ name
      → last_in old book name ≡ Some (last_of held.wanted) → is_later (last_in old book (row_name row)) row ≡ later
      → before (row_revision held.wanted) (row_revision row) ≡ later
  last_later name held later same said is =
      ap (λ last. is_later last row) (sym said ∙ sym (ap (last_in old book) same)) ∙ is

  -- the row is later than the last one of its record
  pub later_goes : (new : Ahead) → is_later (last_in old book (row_name row)) row ≡ true
      → Updates name_cmp old.later new.later (row_name row) (Some (last_of row)) → GoesAhead book old new (row ∷ [])
  later_goes new is updates = goes_by book old new row says
    where
      fallback : RecordName → Option Last
      fallback name = option_map last_of (wanted_row (book_of book) name)

      says : (name : RecordName) (held : Known) → name.kind ≡ kind.User
          → last_in old book name ≡ Some (last_of held.wanted)
          → last_in new book name ≡ Some (last_of (newest held name row).wanted)
      says name held user said = elim (cases_Bool (same_name (row_name row) name)) [
        | inl e ↦
            let same : row_name row ≡ name = (same_names (row_name row) name).0 e in
            let here : get_in name_cmp new.later name ≡ Some (last_of row) =
            updates.0 name ∙ rw (tied (row_name row) name, e) refl in
            rw (e, last_later name held true same said is) (ap (λ found. option_or found (fallback name)) here)
        | inr e ↦
            let there : get_in name_cmp new.later name ≡ get_in name_cmp old.later name =
            updates.0 name ∙ rw (tied (row_name row) name, e) refl in
            rw e (ap (λ found. option_or found (fallback name)) there ∙ said)
      ]

  -- the row isn't later, or its record isn't in the book
  pub other_goes : is_later (last_in old book (row_name row)) row ≡ false → GoesAhead book old old (row ∷ [])
  other_goes is = goes_by book old old row says
    where
      says : (name : RecordName) (held : Known) → name.kind ≡ kind.User
          → last_in old book name ≡ Some (last_of held.wanted)
          → last_in old book name ≡ Some (last_of (newest held name row).wanted)
      says name held user said = elim (cases_Bool (same_name (row_name row) name)) [
        | inl e ↦
            let same : row_name row ≡ name = (same_names (row_name row) name).0 e in
            rw (e, last_later name held false same said is) said
        | inr e ↦ rw e said
      ]

-- ---- rows one after another

taking_all_append : (book : BookMap) (xs ys : List Row) → taking_all book (xs ++ ys) ≡ taking_all (taking_all book xs) ys
taking_all_append book [] ys = refl
taking_all_append book (row ∷ xs) ys = taking_all_append (taking book row) xs ys

pub goes_more : (book : BookMap) (first mid last : Ahead) (xs ys : List Row) → GoesAhead book first mid xs
    → GoesAhead book mid last ys → GoesAhead book first last (xs ++ ys)
goes_more book first mid last xs ys one two later is =
    subst (IsAhead book last) (sym (taking_all_append later xs ys)) (two (taking_all later xs) (one later is))

-- one record more of a loop
pub goes_record : (book : BookMap) (first mid last : Ahead) (records : List (Result Row RowFault)) (i : ℕ)
    (found : Result Row RowFault) → i < length records → found ≡ get_or records i found
    → GoesAhead book first mid (rows_in (take i records)) → GoesAhead book mid last (rows_in (found ∷ []))
    → GoesAhead book first last (rows_in (take (i + 1) records))
goes_record book first mid last records i found less is one two =
    subst (GoesAhead book first last) (sym (rows_next records i found less is))
    (goes_more book first mid last (rows_in (take i records)) (rows_in (found ∷ [])) one two)

-- ---- the count

from_zero : (n : ℕ) → 0 + n ≡ n
from_zero n = omega arith

module _ {X : Type 0} (p f g : X → Bool) (same : (x : X) → p x ≡ true → f x ≡ g x) where
  counted_here : (x : X) (xs : List X) (b : Bool) → p x ≡ b
      → cond (f x && b) 1 0 + count_by g (filter p xs) ≡ count_by g (cond b (x ∷ filter p xs) (filter p xs))
  counted_here x xs true is =
      ap (λ c. cond (c && true) 1 0 + count_by g (filter p xs)) (same x is) ∙ whole (g x) ∙ sym (sum_by-cons (λ y. cond (g y) 1 0) x (filter p xs))
    where
      whole : (c : Bool) → cond (c && true) 1 0 + count_by g (filter p xs) ≡ cond c 1 0 + count_by g (filter p xs)
      whole true = refl
      whole false = refl
  counted_here x xs false is = none (f x)
    where
      none : (c : Bool) → cond (c && false) 1 0 + count_by g (filter p xs) ≡ count_by g (filter p xs)
      none true = from_zero (count_by g (filter p xs))
      none false = from_zero (count_by g (filter p xs))

  count_both : (xs : List X) → count_by (λ x. f x && p x) xs ≡ count_by g (filter p xs)
  count_both [] = refl
  count_both (x ∷ xs) =
      sum_by-cons (λ y. cond (f y && p y) 1 0) x xs ∙ ap (λ n. cond (f x && p x) 1 0 + n) (count_both xs) ∙ counted_here x xs (p x) refl

-- a user in use is in the book
in_book : (book : BookMap) (name : RecordName) (found : Option Known) → get book name ≡ found
    → is_in_use (book_of book) name ≡ true → (known : Known) × (get book name ≡ Some known)
in_book book name None is used =
    let parts = and_parts (same_kind name.kind kind.User) _ used in
    let rest = and_parts (not (same_revision (confirmed_of (book_of book) name) no_revision)) _ parts.1 in
    let none : confirmed_of (book_of book) name ≡ no_revision = rw is refl in
    let same : same_revision (confirmed_of (book_of book) name) no_revision ≡ true = (same_revisions _ _).1 none in
    absurd (absurd_not (sym (ap not same) ∙ rest.0))
  where
    absurd_not : false ≡ true → ⊥
    absurd_not e = cc
in_book book name (Some known) is used = (known, is)

-- a record that is known so is switched off by what the rows say of it
same_by : (book : BookMap) (ahead : Ahead) (later : BookMap) (name : RecordName) (known held : Known)
    → get book name ≡ Some known → get later name ≡ Some held → last_in ahead book name ≡ Some (last_of held.wanted)
    → held.confirmed ≡ known.confirmed
    → is_off_by (last_in ahead book name) (confirmed_of (book_of book) name) ≡ is_switched_off (book_of later) name
same_by book ahead later name known held there found said confirmed =
    let mine : confirmed_of (book_of book) name ≡ held.confirmed = rw there (sym confirmed) in
    ap (λ last. is_off_by last (confirmed_of (book_of book) name)) said
    ∙ ap (is_off_by (Some (last_of held.wanted))) mine
    ∙ sym (off_by (get later name) found)
  where
    off_by : (k : Option Known) → k ≡ Some held
        → (has_left (option_map (λ (known : Known). known.wanted) k) && not (same_revision (wanted_if k) (confirmed_if k)))
        ≡ is_off_by (Some (last_of held.wanted)) held.confirmed
    off_by k is = ap (λ it. has_left (option_map (λ (known : Known). known.wanted) it) && not (same_revision (wanted_if it) (confirmed_if it))) is

module _ (book : BookMap) (ahead : Ahead) (later : BookMap) (is : IsAhead book ahead later) where
  same_test : (name : RecordName) → is_in_use (book_of book) name ≡ true
      → is_off_by (last_in ahead book name) (confirmed_of (book_of book) name) ≡ is_switched_off (book_of later) name
  same_test name used =
      let (known, there) = in_book book name (get book name) refl used in
      let user : name.kind ≡ kind.User = (same_type name.kind kind.User).0 (and_parts (same_kind name.kind kind.User) _ used).0 in
      let (held, found, said, confirmed) = known_so (last_in ahead book name) known.confirmed (get later name) (is name known user there) in
      same_by book ahead later name known held there found said confirmed

  pub counted : count_by (is_leaver ahead book) (keys book) ≡ leavers book later
  counted = count_both (is_in_use (book_of book)) (λ name. is_off_by (last_in ahead book name) (confirmed_of (book_of book) name)) (is_switched_off (book_of later)) same_test (keys book)

-- the rows of the files, counted so
pub counted_sources : (book : BookMap) (none users all : Ahead) (sources : Sources) → IsAhead book none book
    → GoesAhead book none users (rows_in (records_of sources.users)) → GoesAhead book users all (group_rows sources.groups)
    → count_by (is_leaver all book) (keys book) ≡ leavers_by book sources
counted_sources book none users all sources starts first second =
    counted book all (taking_sources book sources) (second (taking_all book (rows_in (records_of sources.users))) (first book starts))

-- before any row
pub starts_ahead : (book : BookMap) (ahead : Ahead) → ((name : RecordName) → get_in name_cmp ahead.later name ≡ None)
    → IsAhead book ahead book
starts_ahead book ahead none name known user there =
    let said : last_in ahead book name ≡ Some (last_of known.wanted) =
    ap (λ found. option_or found (option_map last_of (wanted_row (book_of book) name))) (none name)
    ∙ ap (λ found. option_map last_of (option_map (λ (k : Known). k.wanted) found)) there in
    subst (IsKnownSo (last_in ahead book name) known.confirmed) (sym there) (said, refl)

-- ---- the rows that are offered

module _ {J : Type 0} (g : Ghosts J) where
  file_taken : (source : Source) (old new : State J) (before after : Option (List Judged)) (taken : Bool)
      → OffersFile g source.kind (records_of source) old new before after (Ok taken)
      → new.book ≡ taking_all old.book (rows_in (records_of source))
  file_taken source old new before after taken (inl it) = it.1.book
  file_taken source old new before after taken (inr it) = absurd (cc)

  groups_taken : (groups : Option Source) (old new : State J) (before after : Option (List Judged)) (taken : Bool)
      → OffersGroups g groups old new before after (Ok taken) → new.book ≡ taking_all old.book (group_rows groups)
  groups_taken None old new before after taken offers = ap (λ (s : State J). s.book) offers.0
  groups_taken (Some source) old new before after taken offers = file_taken source old new before after taken offers

  both_ok : (users taken : Bool) (groups : Result Bool RunFault) → Ok taken ≡ both users groups
      → (more : Bool) × (groups ≡ Ok more)
  both_ok users taken (Ok more) e = (more, refl)
  both_ok users taken (Err fault) e = absurd (cc)

  pub sources_taken : TakesSources g
  sources_taken sources old new before after taken (inl it) =
      let (between, mid, users, groups, offers, grouped, is) = it in
      let (more, ok) = both_ok users taken groups is in
      let grouped_so = subst (OffersGroups g sources.groups between new mid after) ok grouped in
      groups_taken sources.groups between new mid after more grouped_so
      ∙ ap (λ book. taking_all book (group_rows sources.groups)) (file_taken sources.users old between before mid users offers)
  sources_taken sources old new before after taken (inr it) = absurd (cc)
