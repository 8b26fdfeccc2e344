-- What the statement that writes what was learnt makes of the tables, and of the entries.
use Rattle.std.proofs.Common.{◌≡◌, ◌+◌, ℕ, ℤ, true, List, [], ◌∷◌, ◌++◌, drop, filter, length, map, None, Ok, Option, Some, IsTrue, IsPermutation, refl, sym, ap, ◌∙◌, subst, inr, arith}
use Rattle.std.specs.Prelude.{unwrap_or}
use Rattle.std.specs.FinMap.{get, insert}
use Rattle.sqlite_value.specs.declared.value.Value.TheVariants.{Int}
use Rattle.sqlite_value.specs.Order.{Row}
use Rattle.sqlite_sql.specs.Term.{Term, col}
use Rattle.sqlite_trees.specs.Tree.{Trees, rowid, put_row, without_rowid}
use Rattle.sqlite_trees.specs.declared.store.Store.{Ghosts}
use Rattle.sqlite_schema.specs.declared.schema.Keys.TheVariants.{Enforced}
use Rattle.sqlite_schema.specs.declared.schema.Schema.{Schema}
use Rattle.sqlite_schema.specs.declared.command.Command.{Command}
use Rattle.sqlite_schema.specs.declared.command.Command.TheVariants.{Update}
use Rattle.sqlite_rules.specs.Calls.{ids_of}
use Rattle.sqlite_rules.specs.Cast.{cast_all}
use Rattle.sqlite_rules.specs.Edit.{edit_of, edited}
use Rattle.sqlite_rules.specs.declared.error.Rowids.TheVariants.{Given}
use Rattle.sqlite_rules.proofs.ListLemmas.{has_kept}
use Rattle.sqlite_resolve.specs.declared.compiled.Compiled.{Compiled}
use Rattle.sqlite_tied.specs.Compute.{everything}
use Rattle.sqlite.specs.Does.{Tally, Does}
use Rattle.sqlite.specs.Effect.{Database, IsDatabase}
use Rattle.sqlite.specs.Held.{state}
use Rattle.sqlite.specs.Listing.{understood}
use Rattle.sqlite.specs.Rows.{Written}
use Rattle.sqlite.specs.State.{State, HasCleanDisk, Survives}
use Rattle.sqlite.proofs.Callers.{one_permutation, one_step}
use Rattle.sqlite.proofs.StateLemmas.{survives_weaker}
use Rattle.scim_key.proofs.RevisionLaws.{are_read_back}
use Rattle.scim_key.specs.Revisions.{RevisionValue, confirmed_of_parts, revision_epoch, revision_number}
use Rattle.scim_key.specs.declared.records.Kind.{Kind}
use Rattle.scim_key.specs.declared.records.Kind.TheVariants.{User, Group}
use Rattle.scim_key.specs.declared.records.RecordName.{RecordName}
use Rattle.source_csv.specs.Records.{row_name}
use Rattle.journal_core.specs.Entries.{CanPutLearnt, EntryMap, entry_learnt, learnt_at, with_learnt}
use Rattle.journal_core.specs.declared.entries.Entry.{Entry}
use Rattle.sql_tables.specs.Statements.{MayLeave, RanOn, plain_mode}
use Rattle.sql_tables.proofs.Editing.{IsWrite, command_is, edits_by, same_value, went}
use Rattle.sql_tables.proofs.Queries.{query}
use Rattle.sql_tables.proofs.Selecting.{shows}
use Rattle.sql_tables.proofs.Values.{cast_int}
use Rattle.journal_store.specs.Connections.{Commits, HasNumbers, IsEditText, IsLaid, IsThere, has_key}
use Rattle.journal_store.specs.Format.{Form, entry_place, entry_tree, journal_schema, third_groups, third_users}
use Rattle.journal_store.specs.Tables.{places, table_of}
use Rattle.journal_store.specs.Learning.{Learns, learn_text, learnt_row, learnt_values}
use Rattle.journal_store.specs.Resets.{kept_count}
use Rattle.journal_store.specs.Rows.{entries_in, entry_in, shown_row}
use Rattle.journal_store.specs.Kept.{IsFaithful, Kept, kept_entries}
use Rattle.journal_store.proofs.Putting.{FindsIn, PutsCells, cells_numbered, cells_put, only_one}
use Rattle.journal_store.proofs.Selecting.{selected}
use Rattle.journal_store.proofs.Single.{held_row}
use Rattle.journal_store.proofs.Standing.{has_own_key, stands_some}
use Rattle.journal_store.proofs.Telling.{shows_told, told_kept, told_shown}
use Rattle.journal_store.proofs.Texts.{key_is}
use Rattle.journal_store.proofs.Writing.{found_one}

-- ---- the statement

abbrev pub learn_terms : Kind → List Term
learn_terms kind = col 1 0 ∷ (map (col 1) (places 0 (1 + kept_count kind)) ++ col 0 1 ∷ col 0 2 ∷ col 1 (3 + kept_count kind) ∷ col 0 3 ∷ [])

abbrev pub learn_command : Kind → Command
learn_command kind = Update (entry_place kind) (record { lets = []; body = query (entry_tree kind) (key_is ∷ []) (learn_terms kind) [] })

pub learn_is : (kind : Kind) → IsWrite journal_schema (learn_text kind) (learn_command kind)
unfolding understood everything
learn_is User = record { means = λ f. refl; plain = λ f. (refl, refl) }
learn_is Group = record { means = λ f. refl; plain = λ f. (refl, refl) }

-- ---- the statement, over a table

module _ (limit : Option ℕ) (f : Form) (db after : Database) (tally : Tally) (sql : List ℕ) (has : db.schema ≡ journal_schema f) (key : List ℕ) (confirmed : RevisionValue) (id : List ℕ) (r : Row) (n : ℤ) where
  abbrev schema : Schema
  schema = journal_schema f

  abbrev values : Row
  values = learnt_values key confirmed id

  -- the columns that are written
  abbrev cells : Kind → Row
  cells kind = told_shown confirmed (Some id) kind (shown_row kind r)

  learns_user : filter (has_key key) (db.trees 7) ≡ r ∷ [] → rowid r ≡ Int n → cast_all third_users.columns (cells User) ≡ cells User → Does limit plain_mode values db sql None (learn_command User) (Ok (tally, after))
      → (after.schema ≡ schema) × (tally.rows ≡ Some 1) × (after.trees 7 ≡ put_row (Int n ∷ cells User) (without_rowid n (db.trees 7))) × (after.trees 9 ≡ db.trees 9)
  learns_user only number_is kept does =
      let done = went (subst (λ s. Does limit plain_mode values (record db { schema = s }) sql None (learn_command User) (Ok (tally, after))) has does) in
      let concluded = same_value (went (went done.2).2).2 in
      let now = ap (λ (t : Tally × Database). t.1) concluded in
      let rows_given = went done.1 in
      let all = selected User (key_is ∷ []) (learn_terms User) [] values (record { schema = schema; trees = db.trees }) rows_given.0 rows_given.1 in
      let one : rows_given.0 ≡ (Int n ∷ Int n ∷ cells User) ∷ [] =
      one_permutation _ rows_given.0 (subst (λ l. IsPermutation l rows_given.0) (ap (map (shows (learn_terms User) values)) (found_one key (drop 1 values) (db.trees 7) r only) ∙ rw number_is refl) all) in
      let written = went rows_given.2 in
      let trees : done.0.trees ≡ written.0 = ap (λ (it : Written). it.trees) (same_value written.2) in
      let counted : done.0.rows ≡ (edit_of db.trees (table_of third_users f.users) (ids_of rows_given.0) Given 1 rows_given.0).news = ap (λ (it : Written). it.rows) (same_value written.2) in
      let applied = one_step schema Enforced db.trees written.0 (edit_of db.trees (table_of third_users f.users) (ids_of rows_given.0) Given 1 rows_given.0) refl written.1 in
      let edit : edited db.trees (edit_of db.trees (table_of third_users f.users) (ids_of rows_given.0) Given 1 rows_given.0) ≡ put_row (Int n ∷ cells User) (without_rowid n (db.trees 7)) =
      ap (λ all. edited db.trees (edit_of db.trees (table_of third_users f.users) (ids_of all) Given 1 all)) one ∙ rw (cast_int n, kept) refl in (
        ap (λ (d : Database). d.schema) now,
        ap (λ (t : Tally × Database). t.0.rows) concluded ∙ ap (λ (l : List Row). Some (length l)) counted
            ∙ ap (λ (all : List Row). Some (length (edit_of db.trees (table_of third_users f.users) (ids_of all) Given 1 all).news)) one,
        ap (λ (d : Database). d.trees 7) now ∙ ap (λ (t : Trees). t 7) trees ∙ applied.rows ∙ edit,
        ap (λ (d : Database). d.trees 9) now ∙ ap (λ (t : Trees). t 9) trees ∙ applied.tables.1.1.1.1.1.0 (λ (e : 9 ≡ 7). omega (arith, e)),
      )

  learns_group : filter (has_key key) (db.trees 9) ≡ r ∷ [] → rowid r ≡ Int n → cast_all third_groups.columns (cells Group) ≡ cells Group → Does limit plain_mode values db sql None (learn_command Group) (Ok (tally, after))
      → (after.schema ≡ schema) × (tally.rows ≡ Some 1) × (after.trees 9 ≡ put_row (Int n ∷ cells Group) (without_rowid n (db.trees 9))) × (after.trees 7 ≡ db.trees 7)
  learns_group only number_is kept does =
      let done = went (subst (λ s. Does limit plain_mode values (record db { schema = s }) sql None (learn_command Group) (Ok (tally, after))) has does) in
      let concluded = same_value (went (went done.2).2).2 in
      let now = ap (λ (t : Tally × Database). t.1) concluded in
      let rows_given = went done.1 in
      let all = selected Group (key_is ∷ []) (learn_terms Group) [] values (record { schema = schema; trees = db.trees }) rows_given.0 rows_given.1 in
      let one : rows_given.0 ≡ (Int n ∷ Int n ∷ cells Group) ∷ [] =
      one_permutation _ rows_given.0 (subst (λ l. IsPermutation l rows_given.0) (ap (map (shows (learn_terms Group) values)) (found_one key (drop 1 values) (db.trees 9) r only) ∙ rw number_is refl) all) in
      let written = went rows_given.2 in
      let trees : done.0.trees ≡ written.0 = ap (λ (it : Written). it.trees) (same_value written.2) in
      let counted : done.0.rows ≡ (edit_of db.trees (table_of third_groups f.groups) (ids_of rows_given.0) Given 1 rows_given.0).news = ap (λ (it : Written). it.rows) (same_value written.2) in
      let applied = one_step schema Enforced db.trees written.0 (edit_of db.trees (table_of third_groups f.groups) (ids_of rows_given.0) Given 1 rows_given.0) refl written.1 in
      let edit : edited db.trees (edit_of db.trees (table_of third_groups f.groups) (ids_of rows_given.0) Given 1 rows_given.0) ≡ put_row (Int n ∷ cells Group) (without_rowid n (db.trees 9)) =
      ap (λ all. edited db.trees (edit_of db.trees (table_of third_groups f.groups) (ids_of all) Given 1 all)) one ∙ rw (cast_int n, kept) refl in (
        ap (λ (d : Database). d.schema) now,
        ap (λ (t : Tally × Database). t.0.rows) concluded ∙ ap (λ (l : List Row). Some (length l)) counted
            ∙ ap (λ (all : List Row). Some (length (edit_of db.trees (table_of third_groups f.groups) (ids_of all) Given 1 all).news)) one,
        ap (λ (d : Database). d.trees 9) now ∙ ap (λ (t : Trees). t 9) trees ∙ applied.rows ∙ edit,
        ap (λ (d : Database). d.trees 7) now ∙ ap (λ (t : Trees). t 7) trees ∙ applied.tables.1.1.1.1.0 (λ (e : 7 ≡ 9). omega (arith, e)),
      )

-- ---- the row of the record

learnt_is : (kind : Kind) (confirmed : RevisionValue) (id : List ℕ) (r : Row) (n : ℤ) → rowid r ≡ Int n → learnt_row kind confirmed id r ≡ Int n ∷ told_shown confirmed (Some id) kind (shown_row kind r)
learnt_is User confirmed id r n number = λ i. number i ∷ told_shown confirmed (Some id) User (shown_row User r)
learnt_is Group confirmed id r n number = λ i. number i ∷ told_shown confirmed (Some id) Group (shown_row Group r)

module _ (limit : Option ℕ) (f : Form) (db after : Database) (tally : Tally) (sql : List ℕ) (has : db.schema ≡ journal_schema f) (confirmed : RevisionValue) (id : List ℕ) (reads : confirmed_of_parts (revision_epoch confirmed) (revision_number confirmed) ≡ Some confirmed) where
  learns_by : (kind : Kind) (key : List ℕ) (e : Entry) (there : IsThere db.trees (record { kind = kind; key = key })) → entry_in kind (shown_row kind there.row) ≡ Some e
      → Does limit plain_mode (learnt_values key confirmed id) db sql None (learn_command kind) (Ok (tally, after))
      → (after.schema ≡ journal_schema f) × (tally.rows ≡ Some 1) × Learns (record { kind = kind; key = key }) confirmed id db.trees after.trees
  learns_by User key e there is does =
      let r = there.row in
      let n = there.number in
      let made = learns_user limit f db after tally sql has key confirmed id r n there.only there.numbered (told_kept confirmed (Some id) reads User (shown_row User r) e is) does in (
        made.0,
        made.1,
        record {
          row = r;
          number = n;
          numbered = there.numbered;
          only = there.only;
          learns = made.2 ∙ ap (λ (x : Row). put_row x (without_rowid n (db.trees 7))) (sym (learnt_is User confirmed id r n there.numbered));
          users = λ e. absurd (cc);
          groups = λ _. made.3;
        },
      )
  learns_by Group key e there is does =
      let r = there.row in
      let n = there.number in
      let made = learns_group limit f db after tally sql has key confirmed id r n there.only there.numbered (told_kept confirmed (Some id) reads Group (shown_row Group r) e is) does in (
        made.0,
        made.1,
        record {
          row = r;
          number = n;
          numbered = there.numbered;
          only = there.only;
          learns = made.2 ∙ ap (λ (x : Row). put_row x (without_rowid n (db.trees 9))) (sym (learnt_is Group confirmed id r n there.numbered));
          users = λ _. made.3;
          groups = λ e. absurd (cc);
        },
      )

-- ---- the call

pub learn_edits : (kind : Kind) → IsEditText (learn_text kind)
learn_edits User = edits_by (learn_is User) tt
learn_edits Group = edits_by (learn_is Group) tt

module _ (old : State) (name : RecordName) (confirmed : RevisionValue) (id : List ℕ) (sql : List ℕ) (params : Row) (text : sql ≡ learn_text name.kind) (are : params ≡ learnt_values name.key confirmed id)
    (laid : IsLaid old) (live : IsDatabase old.now) (numbers : HasNumbers old.now.trees) (can : CanPutLearnt (entries_in old.now.trees) name confirmed) where
  does_learn : (after : Database) (limit : Option ℕ) (tally : Tally) (text_of : List ℕ) (c : Compiled) → understood old.now.schema sql ≡ Ok c → Does limit plain_mode params old.now text_of None c.command (Ok (tally, after))
      → (after.schema ≡ journal_schema laid.form) × (tally.rows ≡ Some 1) × Learns name confirmed id old.now.trees after.trees
  does_learn after limit tally text_of c is does =
      let sound : IsDatabase (record { schema = journal_schema laid.form; trees = old.now.trees }) = subst IsDatabase (λ i. record { schema = laid.schema i; trees = old.now.trees }) live in
      let held = held_row laid.form old.now.trees sound name can.entry numbers can.there in
      let command = command_is (learn_is name.kind) old c laid (subst (λ t. understood old.now.schema t ≡ Ok c) text is) in
      learns_by limit laid.form old.now after tally text_of laid.schema confirmed id (are_read_back.confirmed_from_parts confirmed (inr can.confirms)) name.kind name.key can.entry held.0 held.1
      (subst (λ k. Does limit plain_mode (learnt_values name.key confirmed id) old.now text_of None k (Ok (tally, after))) command
      (subst (λ p. Does limit plain_mode p old.now text_of None c.command (Ok (tally, after))) are does))

  pub learn_made : (new : State) (count : ℕ) → RanOn sql params old new count → Commits (Learns name confirmed id) old new × (count ≡ 1)
  learn_made new count it =
      let ran = it.ran in
      let made = does_learn new.now ran.limit ran.tally ran.text ran.compiled ran.is ran.does in (
        record {
          was_open = ran.was_open;
          is_open = ran.is_open;
          laid = record { form = laid.form; schema = made.0; committed = (ran.settled laid.autocommit).0; autocommit = (ran.settled laid.autocommit).1 };
          puts = made.2;
        },
        it.counted ∙ ap (λ (o : Option ℕ). unwrap_or o 0) made.1,
      )

  pub learn_leaves : (db : Trees) → MayLeave sql params old db → Learns name confirmed id old.now.trees db
  learn_leaves db may = subst (Learns name confirmed id old.now.trees) (sym may.trees) (does_learn may.after may.limit may.tally may.text may.compiled may.is may.does).2

pub learn_stops : (old new : State) (name : RecordName) (confirmed : RevisionValue) (id : List ℕ) (sql : List ℕ) (params : Row) → sql ≡ learn_text name.kind → params ≡ learnt_values name.key confirmed id
    → (HasCleanDisk old → IsTrue old.is_open → IsLaid old) → (IsTrue old.is_open → IsDatabase old.now) → (HasCleanDisk old → IsTrue old.is_open → HasNumbers old.now.trees)
    → (HasCleanDisk old → IsTrue old.is_open → CanPutLearnt (entries_in old.now.trees) name confirmed) → Survives old new (MayLeave sql params old) → Survives old new (λ db. IsTrue old.is_open × Learns name confirmed id old.now.trees db)
learn_stops old new name confirmed id sql params text are laid live numbers can it =
    survives_weaker old new _ _ (λ clean db may.
    let early : HasCleanDisk old = omega (arith, clean, it.clean) in
    let still = may.was_open in
    (still, learn_leaves old name confirmed id sql params text are (laid early still) (live still) (numbers early still) (can early still) db may)) it

-- ---- the entries

-- the number of a row is no matter
shown_told : (kind : Kind) (confirmed : RevisionValue) (id : List ℕ) (n : ℤ) (s : Row) → shown_row kind (Int n ∷ told_shown confirmed (Some id) kind s) ≡ told_shown confirmed (Some id) kind s
shown_told User confirmed id n s = refl
shown_told Group confirmed id n s = refl

learns_put : (old new : Trees) (e : Entry) (confirmed : RevisionValue) (id : List ℕ) → HasNumbers old → confirmed_of_parts (revision_epoch confirmed) (revision_number confirmed) ≡ Some confirmed
    → (it : Learns (row_name e.row) confirmed id old new) → entry_in (row_name e.row).kind (shown_row (row_name e.row).kind it.row) ≡ Some e
    → HasNumbers new × (entries_in new ≡ insert (entries_in old) (row_name e.row) (entry_learnt confirmed id e))
learns_put old new e confirmed id numbers reads it is =
    let kind = (row_name e.row).kind in
    let table = old (entry_tree kind) in
    let cells = told_shown confirmed (Some id) kind (shown_row kind it.row) in
    let entry = entry_learnt confirmed id e in
    let found : FindsIn kind (row_name e.row).key table true =
    λ r only. (e, subst (λ y. entry_in kind (shown_row kind y) ≡ Some e) (let both : it.row ∷ [] ≡ r ∷ [] = sym it.only ∙ only in cc) is) in
    let puts : PutsCells true (row_name e.row).key cells table (new (entry_tree kind)) =
    (it.row, it.number, it.numbered, it.only, it.learns ∙ ap (λ (x : Row). put_row x (without_rowid it.number table)) (learnt_is kind confirmed id it.row it.number it.numbered)) in
    let shows = λ (n : ℤ). ap (entry_in kind) (shown_told kind confirmed id n (shown_row kind it.row)) ∙ shows_told confirmed (Some id) reads kind (shown_row kind it.row) e is in
    (cells_numbered true entry cells old new numbers found puts it.users it.groups shows, cells_put true entry cells old new numbers found puts it.users it.groups shows)

pub learn_means : {S : Type 0} (g : Ghosts S) (old : Kept S) (name : RecordName) (confirmed : RevisionValue) (id : List ℕ) → (IsFaithful g old → CanPutLearnt (kept_entries g old) name confirmed)
    → IsFaithful g old → (db : Trees) → Learns name confirmed id (state g old.conn).now.trees db → HasNumbers db × (entries_in db ≡ with_learnt (kept_entries g old) name confirmed id)
learn_means g old name confirmed id can it db learns =
    let lawful = can it in
    let e = lawful.entry in
    let trees = (state g old.conn).now.trees in
    let same : entries_in trees ≡ kept_entries g old = sym (ap (λ (d : Database). entries_in d.trees) it.whole.laid.committed) in
    let stands = stands_some trees name e (ap (λ (m : EntryMap). get m name) same ∙ lawful.there) in
    let row_is : stands.0.row ≡ learns.row =
    only_one _ learns.row stands.0.row learns.only (has_kept (has_key name.key) (trees (entry_tree name.kind)) stands.0.row stands.0.there (has_own_key name.kind stands.0.row e name stands.0.shows stands.1)) in
    let is = subst (λ (r : Row). entry_in name.kind (shown_row name.kind r) ≡ Some e) row_is stands.0.shows in
    let named = subst (λ (n : RecordName). (l : Learns n confirmed id trees db) × (entry_in n.kind (shown_row n.kind l.row) ≡ Some e)) (sym stands.1) (learns, is) in
    let made = learns_put trees db e confirmed id it.whole.numbers (are_read_back.confirmed_from_parts confirmed (inr lawful.confirms)) named.0 named.1 in
    (made.0, made.1 ∙ (λ i. insert (same i) (stands.1 i) (entry_learnt confirmed id e)) ∙ ap (learnt_at (kept_entries g old) name confirmed id) (sym lawful.there))
