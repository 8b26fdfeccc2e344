-- What the calls inside a transaction do.
use Rattle.std.proofs.Common.{◌≡◌, ◌⊎◌, ◌<◌, ◌+◌, ◌++◌, ℕ, Bool, true, false, List, [], ◌∷◌, Option, Some, None, Ok, Err, Result, IfErr, IfOk, IsTrue, arith, drop, get_or, length, refl, sym, ap, ◌∙◌, subst, inl, inr, take}
use Rattle.std.proofs.lemmas.Bool.{both_ways}
use Rattle.std.proofs.lemmas.List.{drop_more, take_more}
use Rattle.std.specs.Prelude.{is_some}
use Rattle.std.specs.FinMap.{get}
use Rattle.sqlite_value.specs.Order.{Row}
use Rattle.sqlite_schema.specs.declared.command.Returning.{Returning}
use Rattle.sqlite_resolve.specs.declared.compiled.Compiled.{Compiled}
use Rattle.sqlite_trees.specs.Tree.{Trees}
use Rattle.sqlite.specs.declared.error.Error.{Error}
use Rattle.sqlite.specs.Clock.{timed}
use Rattle.sqlite.specs.Effect.{Database}
use Rattle.sqlite.specs.State.{State, ExecutesInside, FailsToQuery, HasCleanDisk, IsNotRun, IsRolledBack, IsTooLate, IsUnchanged, Shown, Shows, ShowsRows, Survives, text_of}
use Rattle.sqlite.specs.Held.{Held, state}
use Rattle.sqlite.specs.Steps.{FailsToCommit}
use Rattle.sqlite_trees.specs.declared.store.Store.{Ghosts}
use Rattle.sqlite.proofs.Callers.{command_of, reads_as, survives_begin}
use Rattle.sqlite.proofs.StateLemmas.{survives_then}
use Rattle.scim_key.specs.declared.records.RecordName.{RecordName}
use Rattle.source_csv.specs.Records.{row_name}
use Rattle.source_csv.specs.declared.rows.Row as source
use Rattle.journal_core.specs.Entries.{CanPutRow, CanPutRows, EntryMap, entry_with, with_row, with_rows}
use Rattle.journal_core.specs.declared.entries.Entry.{Entry}
use Rattle.journal_store.specs.Rows.{entries_in, entry_in, row_of}
use Rattle.sql_tables.specs.Statements.{Answers, IsEditText, IsQuery, Keeps, Ran, LeavesStore}
use Rattle.sql_tables.proofs.Asking.{edit_at, query_at, shown_unchanged, writes_by}
use Rattle.sql_tables.proofs.Keeping.{not_run_ends, query_ends}
use Rattle.sql_tables.proofs.Leaving.{ends_leaves, leaves_then, unchanged_leaves}
use Rattle.journal_store.specs.Format.{journal_schema}
use Rattle.journal_store.specs.Batches.{IsUnderWay, MakesRows, PutsRow, PutsRows, settled}
use Rattle.journal_store.specs.Connections.{Finds, HasNumbers, IsLaid, IsThere, Makes, PutsIn}
use Rattle.journal_store.specs.Kept.{Kept, IsFaithful, kept_entries}
use Rattle.journal_store.proofs.Changing.{known_found, spelled, wanted}
use Rattle.journal_store.proofs.Putting.{entry_put, found_entry, numbers_still, there_of}

-- ---- statements

pub ran_inside : (old new : State) (sql : List ℕ) (params : Row) (count : ℕ) → IsEditText journal_schema sql → IsLaid (settled old) → ExecutesInside 0 sql params old new (Ok count) → Ran sql params (settled old) (settled new)
ran_inside old new sql params count edit laid h =
    let it = writes_by old new sql params count (λ c is. edit_at (settled old) sql c edit laid is) h.0 in
    record {
      was_open = it.2.shown.was_open;
      is_open = it.2.shown.is_open;
      compiled = it.0;
      is = it.1;
      limit = old.step_limit;
      tally = it.2.tally;
      text = text_of sql it.0;
      does = it.2.changed;
      settled = λ _. (refl, refl);
    }

shows_open : (old new : State) (sql : List ℕ) (c : Compiled) (params : Row) (rows : List Row) (o : Option Returning) → ShowsRows old new sql c params rows o → IsTrue old.is_open
shows_open old new sql c params rows None it = it.3.0.was_open
shows_open old new sql c params rows (Some what) it = it.1.shown.was_open

pub shown_open : (old new : State) (sql : List ℕ) (params : Row) (rows : List Row) → Shown sql params old new rows → IsTrue old.is_open
unfolding Shown
shown_open old new sql params rows h = shows_open old new sql h.0 (timed params h.0.formats h.1.now) rows h.0.returning h.2

pub answers_inside : (old new : State) (sql : List ℕ) (params : Row) (rows : List Row) → IsQuery journal_schema sql → IsLaid (settled old) → Shown sql params old new rows → Answers sql params (settled old) rows
answers_inside old new sql params rows query laid shown c is =
    let at = query_at (settled old) sql query laid in
    reads_as sql params old new old.now.schema refl c.command (ap command_of is) at.0 at.1 rows shown

pub unchanged_inside : (old new : State) (sql : List ℕ) (params : Row) (rows : List Row) → IsQuery journal_schema sql → IsLaid (settled old) → Shown sql params old new rows → IsUnchanged old new
unchanged_inside old new sql params rows query laid shown = shown_unchanged old new sql params rows (query_at (settled old) sql query laid).0 shown

pub failed_inside : (old new : State) (sql : List ℕ) (params : Row) (e : Error) → FailsToQuery sql params old new e ⊎ IsTooLate sql params old new e → LeavesStore old new
failed_inside old new sql params e (inl fails) = ends_leaves old new (query_ends old new sql params e fails)
failed_inside old new sql params e (inr late) = unchanged_leaves old new late.5

pub prepared_leaves : {X : Type 0} (text : X → List ℕ) (old new : State) (sql : List ℕ) (r : Result X Error) → IfOk r (λ x. (text x ≡ sql) × IsUnchanged old new) → IfErr r (λ e. (params : Row) → IsNotRun old new sql params e) → LeavesStore old new
prepared_leaves text old new sql (Ok x) same fails = unchanged_leaves old new same.1
prepared_leaves text old new sql (Err e) same fails = ends_leaves old new (not_run_ends old new sql [] e (fails []))

-- ---- a row

row_kept : (row : source.Row) (held : Option Entry) → (entry_with row held).row ≡ row
row_kept row None = refl
row_kept row (Some e) = refl

name_kept : (row : source.Row) (held : Option Entry) → row_name (entry_with row held).row ≡ row_name row
name_kept row held = ap row_name (row_kept row held)

-- a row that is looked up, and then put
module _ (old mid : State) (row : source.Row) (name : RecordName) (held : Option Entry) (entry : Entry) (is_there : Bool) (name_is : name ≡ row_name row) (entry_is : entry ≡ entry_with row held)
    (there_is : is_there ≡ is_some held) (finds : Finds old.now.trees name held) (same : IsUnchanged old mid) where
  its_name : row_name entry.row ≡ name
  its_name = ap (λ (e : Entry). row_name e.row) entry_is ∙ name_kept row held ∙ sym name_is

  there_by : (o : Option Entry) → Finds old.now.trees name o → HasNumbers old.now.trees → is_some o ≡ true → IsThere old.now.trees name
  there_by None found numbers is = absurd (cc)
  there_by (Some e) found numbers is = there_of old.now.trees name e numbers found

  pub there_inside : HasNumbers old.now.trees → is_there ≡ true → IsThere mid.now.trees (row_name entry.row)
  there_inside numbers is =
      subst (λ (d : Database). IsThere d.trees (row_name entry.row)) (sym same.0.now_is)
      (subst (IsThere old.now.trees) (sym its_name) (there_by held finds numbers (sym there_is ∙ is)))

  pub puts_row : (new : State) → Makes is_there entry (settled mid) (settled new) → PutsRow row old.now.trees new.now.trees
  puts_row new made =
      let here : PutsIn is_there entry old.now.trees new.now.trees = subst (λ (d : Database). PutsIn is_there entry d.trees new.now.trees) same.0.now_is made.puts in
      (held, subst (λ n. Finds old.now.trees n held) name_is finds, subst (λ (e : Entry). PutsIn (is_some held) e old.now.trees new.now.trees) entry_is (subst (λ b. PutsIn b entry old.now.trees new.now.trees) there_is here))

-- what a row makes of the entries
module _ (row : source.Row) (old new : Trees) (numbers : HasNumbers old) (can : CanPutRow (entries_in old) row) (puts : PutsRow row old new) where
  abbrev entry_now : Entry
  entry_now = entry_with row puts.0

  held_is : get (entries_in old) (row_name row) ≡ puts.0
  held_is = found_entry old (row_name row) puts.0 puts.1

  found : Finds old (row_name entry_now.row) puts.0
  found = subst (λ n. Finds old n puts.0) (sym (name_kept row puts.0)) puts.1

  back : entry_in (row_name entry_now.row).kind (row_of entry_now) ≡ Some entry_now
  back = spelled row puts.0 (known_found old (row_name row) puts.0 puts.1) puts.2.lawful

  pub row_numbers : HasNumbers new
  row_numbers = numbers_still puts.0 entry_now old new numbers found puts.2 back

  pub row_entries : entries_in new ≡ with_row (entries_in old) row
  row_entries = entry_put puts.0 entry_now old new numbers found puts.2 back ∙ wanted (entries_in old) row puts.0 held_is

-- ---- rows one after another

puts_next : (rows : List source.Row) (row : source.Row) (old mid new : Trees) → PutsRows rows old mid → PutsRow row mid new → PutsRows (rows ++ row ∷ []) old new
puts_next [] row old mid new none put = (new, subst (λ t. PutsRow row t new) none put, refl)
puts_next (first ∷ rows) row old mid new puts put = (puts.0, puts.1, puts_next rows row puts.0 mid new puts.2 put)

-- what they make of the entries
pub rows_put : (rows : List source.Row) (old new : Trees) → HasNumbers old → CanPutRows (entries_in old) rows → PutsRows rows old new → HasNumbers new × (entries_in new ≡ with_rows (entries_in old) rows)
rows_put [] old new numbers can none = (subst HasNumbers (sym none) numbers, ap entries_in none)
rows_put (row ∷ rows) old new numbers can puts =
    let here = row_entries row old puts.0 numbers can.0 puts.1 in
    let later = rows_put rows puts.0 new (row_numbers row old puts.0 numbers can.0 puts.1) (subst (λ (m : EntryMap). CanPutRows m rows) (sym here) can.1) puts.2 in
    (later.0, later.1 ∙ ap (λ (m : EntryMap). with_rows m rows) here)

pub rows_mean : {S : Type 0} (g : Ghosts S) (old : Kept S) (rows : List source.Row) → (IsFaithful g old → CanPutRows (kept_entries g old) rows)
    → IsFaithful g old → (db : Trees) → PutsRows rows (state g old.conn).now.trees db → HasNumbers db × (entries_in db ≡ with_rows (kept_entries g old) rows)
rows_mean g old rows can it db puts =
    let kept = it.whole.laid.committed in
    let may : CanPutRows (entries_in (state g old.conn).now.trees) rows = subst (λ (d : Database). CanPutRows (entries_in d.trees) rows) kept (can it) in
    let made = rows_put rows (state g old.conn).now.trees db it.whole.numbers may puts in
    (made.0, made.1 ∙ ap (λ (d : Database). with_rows (entries_in d.trees) rows) (sym kept))

-- within a list of rows, in a transaction that began with this state
pub record PutSoFar (rows : List source.Row) (at : ℕ) (old now : State) : Type 0 where
  pub under_way : IsUnderWay now
  pub left : HasCleanDisk now → LeavesStore old now
  pub quiet : Survives old now (λ _. ⊥)
  pub is_open : HasCleanDisk now → IsTrue now.is_open
  pub puts : HasCleanDisk now → PutsRows (take at rows) old.now.trees now.now.trees
  pub numbers : HasCleanDisk now → HasNumbers now.now.trees
  pub lawful : HasCleanDisk now → CanPutRows (entries_in now.now.trees) (drop at rows)

pub under_way_still : (old now : State) → IsUnderWay old → Survives old now (λ _. ⊥) → (HasCleanDisk now → IsUnchanged old now) → IsUnderWay now
under_way_still old now under_way quiet same = record {
  inside = λ clean. let early : HasCleanDisk old = omega (arith, clean, quiet.clean) in subst IsTrue (sym (same clean).0.mode) (under_way.inside early);
  laid = λ clean still.
      let early : HasCleanDisk old = omega (arith, clean, quiet.clean) in
      let it = under_way.laid early (same clean).0.was_open in
      record {
        form = it.form;
        schema = ap (λ (d : Database). d.schema) (same clean).0.now_is ∙ it.schema;
        committed = refl;
        autocommit = refl;
      };
}

pub put_none : (rows : List source.Row) (old now : State) → IsUnderWay old → (HasCleanDisk old → IsTrue old.is_open → HasNumbers old.now.trees)
    → (HasCleanDisk old → IsTrue old.is_open → CanPutRows (entries_in old.now.trees) rows) → (HasCleanDisk now → IsUnchanged old now) → (HasCleanDisk now → LeavesStore old now) → Survives old now (λ _. ⊥) → PutSoFar rows 0 old now
put_none rows old now under_way numbers lawful same left quiet = record {
  under_way = under_way_still old now under_way quiet same;
  left = left;
  quiet = quiet;
  is_open = λ clean. (same clean).0.is_open;
  puts = λ clean. ap (λ (d : Database). d.trees) (same clean).0.now_is;
  numbers = λ clean. subst (λ (d : Database). HasNumbers d.trees) (sym (same clean).0.now_is) (numbers (before clean) (same clean).0.was_open);
  lawful = λ clean. subst (λ (d : Database). CanPutRows (entries_in d.trees) rows) (sym (same clean).0.now_is) (lawful (before clean) (same clean).0.was_open);
}
  where
    before : HasCleanDisk now → HasCleanDisk old
    before clean = omega (arith, clean, quiet.clean)

pub put_next : (rows : List source.Row) (at : ℕ) (row : source.Row) (old mid new : State) → at < length rows → row ≡ get_or rows at row → PutSoFar rows at old mid → IsUnderWay new → (HasCleanDisk new → LeavesStore mid new)
    → Survives mid new (λ _. ⊥) → (HasCleanDisk new → IsTrue new.is_open) → (HasCleanDisk new → PutsRow row mid.now.trees new.now.trees) → PutSoFar rows (at + 1) old new
put_next rows at row old mid new within is so_far under_way left quiet opens put = record {
  under_way = under_way;
  left = λ clean. leaves_then old mid new (so_far.left (before clean)) (left clean);
  quiet = survives_then old mid new _ _ (λ _. ⊥) (λ _ db it. it) (λ _ db it. it) so_far.quiet quiet;
  is_open = opens;
  puts = λ clean. subst (λ l. PutsRows l old.now.trees new.now.trees) (sym more) (puts_next (take at rows) row old.now.trees mid.now.trees new.now.trees (so_far.puts (before clean)) (put clean));
  numbers = λ clean. row_numbers row mid.now.trees new.now.trees (so_far.numbers (before clean)) (can clean).0 (put clean);
  lawful = λ clean.
      subst (λ (m : EntryMap). CanPutRows m (drop (at + 1) rows)) (sym (row_entries row mid.now.trees new.now.trees (so_far.numbers (before clean)) (can clean).0 (put clean))) (can clean).1;
}
  where
    more : take (at + 1) rows ≡ take at rows ++ row ∷ []
    more = take_more rows at row within ∙ ap (λ (r : source.Row). take at rows ++ r ∷ []) (sym is)

    rest : drop at rows ≡ row ∷ drop (at + 1) rows
    rest = drop_more rows at row within ∙ ap (λ (r : source.Row). r ∷ drop (at + 1) rows) (sym is)

    before : HasCleanDisk new → HasCleanDisk mid
    before clean = omega (arith, clean, quiet.clean)

    can : HasCleanDisk new → CanPutRow (entries_in mid.now.trees) row × CanPutRows (with_row (entries_in mid.now.trees) row) (drop (at + 1) rows)
    can clean = subst (CanPutRows (entries_in mid.now.trees)) rest (so_far.lawful (before clean))

-- ---- the transaction

module _ {S : Type 0} (g : Ghosts S) (old : Held S) where
  abbrev pub begun : Held S
  begun = record old { in_transaction = true }

  abbrev before : State
  before = state g old

  pub begin_under_way : (HasCleanDisk before → IsTrue before.is_open → IsLaid before) → IsUnderWay (state g begun)
  begin_under_way laid = record {
    inside = λ _. refl;
    laid = λ clean still.
        let it = laid clean still in
        record { form = it.form; schema = it.schema; committed = refl; autocommit = refl };
  }

  module _ (rows : List source.Row) (last end : State) (left : HasCleanDisk last → LeavesStore (state g begun) last) (quiet : Survives (state g begun) last (λ _. ⊥)) where
    -- a transaction that is undone, or that did nothing and is over
    pub undone_keeps : HasCleanDisk last → IsRolledBack last end → Keeps before end
    undone_keeps clean back = record {
      was_open = λ still. (left clean).was_open (back.was_open still);
      same = λ still settled _.
          let undone = back.undone still in
          let kept = (left clean).committed (back.was_open still) in
          (undone.0 ∙ kept ∙ settled, undone.1 ∙ sym undone.0, back.autocommit);
    }

    module _ (opens : HasCleanDisk last → IsTrue last.is_open) (puts : HasCleanDisk last → PutsRows rows before.now.trees last.now.trees) (under_way : IsUnderWay last) where
      pub commit_stops : Survives last end (λ db. db ≡ last.now.trees) → Survives before end (λ db. IsTrue before.is_open × PutsRows rows before.now.trees db)
      commit_stops it =
          survives_then before last end _ _ _ (λ _ db none. absurd none)
          (λ late db is.
          let clean : HasCleanDisk last = omega (arith, late, it.clean) in
          ((left clean).was_open (opens clean), subst (PutsRows rows before.now.trees) (sym is) (puts clean)))
          (survives_begin g old last _ quiet) it

      pub commit_makes : HasCleanDisk last → Shows last end last.now last.now false → MakesRows rows before end
      commit_makes clean shows =
          let it = under_way.laid clean shows.was_open in
          record {
            was_open = (left clean).was_open shows.was_open;
            is_open = shows.is_open;
            laid = record {
              form = it.form;
              schema = ap (λ (d : Database). d.schema) shows.now_is ∙ it.schema;
              committed = shows.committed_is ∙ sym shows.now_is;
              autocommit = shows.mode;
            };
            puts = subst (λ (d : Database). PutsRows rows before.now.trees d.trees) (sym shows.now_is) (puts clean);
          }

      -- inside, a commit fails as the store does
      pub commit_keeps : (e : Error) → HasCleanDisk last → FailsToCommit last end e → Keeps before end
      commit_keeps e clean (inl failed) = undone_keeps clean failed.3
      commit_keeps e clean (inr late) = absurd (both_ways _ late.1 (under_way.inside clean))
