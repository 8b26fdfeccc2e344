-- What the two writes leave, as rows of entries.
use Rattle.std.proofs.Common.{◌≡◌, ℕ, Bool, true, false, List, [], ◌∷◌, None, Option, Ok, Err, Result, OnOk, IsTrue, refl, sym, ap, ◌∙◌, subst}
use Rattle.sqlite_value.specs.declared.value.Value.{Value}
use Rattle.sqlite_value.specs.declared.value.Value.TheVariants.{Text}
use Rattle.sqlite_value.specs.Order.{Row}
use Rattle.sqlite_schema.specs.declared.command.Command.{Command}
use Rattle.sqlite_schema.specs.declared.command.Command.TheVariants.{Insert, Update}
use Rattle.sqlite_schema.specs.declared.command.Source.TheVariants.{Values}
use Rattle.sqlite.specs.Does.{Tally, Does}
use Rattle.sqlite.specs.Effect.{Database}
use Rattle.sqlite.specs.State.{State}
use Rattle.scim_key.specs.Revisions.{RevisionValue}
use Rattle.scim_key.specs.declared.records.Kind.{Kind}
use Rattle.source_csv.specs.Records.{IsRow, row_name}
use Rattle.source_csv.specs.Rows.{GroupFields}
use Rattle.source_csv.specs.declared.rows.Row as source
use Rattle.source_csv.specs.declared.rows.Row.TheVariants.{User, Group}
use Rattle.journal_core.specs.declared.entries.Entry.{Entry}
use Rattle.journal_store.specs.Format.{entry_place, entry_tree, journal_schema}
use Rattle.sql_tables.specs.Statements.{IsEdit, IsEditText, Ran, plain_mode}
use Rattle.sql_tables.proofs.Queries.{query}
use Rattle.journal_store.specs.Rows.{epoch_value, id_value, members_text, revision_value, row_by, row_of}
use Rattle.journal_store.specs.Connections.{IsLaid, IsThere, Makes, PutsIn, put_text}
use Rattle.journal_store.proofs.Texts.{key_is, insert_terms, insert_width, insert_is, update_terms, update_is}
use Rattle.sql_tables.proofs.Editing.{IsWrite, command_is, edits_by}
use Rattle.journal_store.proofs.Writing.{inserts_user, inserts_group, updates_user, updates_group}

-- ---- the texts

-- what the text of a write means
abbrev put_command : Bool → Kind → Command
put_command false kind = Insert (entry_place kind) (Values (insert_terms kind) (insert_width kind))
put_command true kind = Update (entry_place kind) (record { lets = []; body = query (entry_tree kind) (key_is ∷ []) (update_terms kind) [] })

put_is : (is_there : Bool) (kind : Kind) → IsWrite journal_schema (put_text is_there kind) (put_command is_there kind)
put_is false kind = insert_is kind
put_is true kind = update_is kind

is_edit : (is_there : Bool) (kind : Kind) → IsEdit (put_command is_there kind)
is_edit false kind = tt
is_edit true kind = tt

pub put_edits : (is_there : Bool) (kind : Kind) → IsEditText journal_schema (put_text is_there kind)
put_edits is_there kind = edits_by (put_is is_there kind) (is_edit is_there kind)

-- ---- an entry is put

module _ (limit : Option ℕ) (old : State) (after : Database) (tally : Tally) (sql : List ℕ) (laid : IsLaid old) where
  abbrev same_schema : Type 0
  same_schema = after.schema ≡ journal_schema laid.form

  adds : (row : source.Row) (confirmed : RevisionValue) (id : Option (List ℕ)) → IsRow row → Does limit plain_mode (row_by row confirmed id) old.now sql None (put_command false (row_name row).kind) (Ok (tally, after))
      → same_schema × PutsIn false (record { row = row; confirmed = confirmed; id = id }) old.now.trees after.trees
  adds (User u) confirmed id lawful does =
      let made = inserts_user limit laid.form old.now after tally sql laid.schema u confirmed id does in
      (made.1, record { lawful = lawful; puts = (made.0, made.2, made.3); users = λ e. absurd (cc); groups = λ _. made.4 })
  adds (Group g) confirmed id lawful does =
      let made = inserts_group limit laid.form old.now after tally sql laid.schema g confirmed id does in
      (made.1, record { lawful = lawful; puts = (made.0, made.2, made.3); users = λ _. made.4; groups = λ e. absurd (cc) })

  renews : (row : source.Row) (confirmed : RevisionValue) (id : Option (List ℕ)) → IsRow row → IsThere old.now.trees (row_name row)
      → Does limit plain_mode (row_by row confirmed id) old.now sql None (put_command true (row_name row).kind) (Ok (tally, after))
      → same_schema × PutsIn true (record { row = row; confirmed = confirmed; id = id }) old.now.trees after.trees
  renews (User u) confirmed id lawful there does =
      let made = updates_user limit laid.form old.now after tally sql laid.schema u confirmed id there.row there.number there.only there.numbered there.keyed does in
      (made.0, record { lawful = lawful; puts = (there.row, there.number, there.numbered, there.only, made.1); users = λ e. absurd (cc); groups = λ _. made.2 })
  renews (Group g) confirmed id lawful there does =
      let made = updates_group limit laid.form old.now after tally sql laid.schema g confirmed id there.row there.number there.only there.numbered there.keyed does in
      (made.0, record { lawful = lawful; puts = (there.row, there.number, there.numbered, there.only, made.1); users = λ _. made.2; groups = λ e. absurd (cc) })

  puts_it : (is_there : Bool) (entry : Entry) → IsRow entry.row → (is_there ≡ true → IsThere old.now.trees (row_name entry.row))
      → Does limit plain_mode (row_of entry) old.now sql None (put_command is_there (row_name entry.row).kind) (Ok (tally, after))
      → same_schema × PutsIn is_there entry old.now.trees after.trees
  puts_it false entry lawful there does = adds entry.row entry.confirmed entry.id lawful does
  puts_it true entry lawful there does = renews entry.row entry.confirmed entry.id lawful (there refl) does

pub put_made : (old new : State) (is_there : Bool) (entry : Entry) → IsRow entry.row → IsLaid old → (is_there ≡ true → IsThere old.now.trees (row_name entry.row))
    → Ran (put_text is_there (row_name entry.row).kind) (row_of entry) old new → Makes is_there entry old new
put_made old new is_there entry lawful laid there ran =
    let type = (row_name entry.row).kind in
    let command = command_is (put_is is_there type) old ran.compiled laid ran.is in
    let does = subst (λ k. Does ran.limit plain_mode (row_of entry) old.now ran.text None k (Ok (ran.tally, new.now))) command ran.does in
    let made = puts_it ran.limit old new.now ran.tally ran.text laid is_there entry lawful there does in
    record {
      was_open = ran.was_open;
      is_open = ran.is_open;
      laid = record { form = laid.form; schema = made.0; committed = (ran.settled laid.autocommit).0; autocommit = (ran.settled laid.autocommit).1 };
      puts = made.1;
    }

-- ---- what is bound is the row

pub group_bound : (g : GroupFields) (confirmed : RevisionValue) (id : Option (List ℕ)) {k l r m c i e d : Value} → k ≡ Text (row_name (Group g)).key → l ≡ Text g.name → r ≡ revision_value g.revision → m ≡ Text (members_text g.members)
    → c ≡ revision_value confirmed → i ≡ id_value id → e ≡ epoch_value g.revision → d ≡ epoch_value confirmed → ◌≡◌ {A = Row} (k ∷ l ∷ r ∷ m ∷ c ∷ i ∷ e ∷ d ∷ []) (row_by (Group g) confirmed id)
group_bound g confirmed id k l r m c i e d = λ j. k j ∷ l j ∷ r j ∷ m j ∷ c j ∷ i j ∷ e j ∷ d j ∷ []

-- ---- the same, of a row of one type

module _ (old new : State) (is_there : Bool) (entry : Entry) (row : source.Row) (type : Kind) (sql : List ℕ) (is : entry.row ≡ row) (lawful : IsRow row) (type_is : type ≡ (row_name entry.row).kind)
    (text : sql ≡ put_text is_there type) where
  its_text : sql ≡ put_text is_there (row_name entry.row).kind
  its_text = text ∙ ap (put_text is_there) type_is

  its_row : row_by row entry.confirmed entry.id ≡ row_of entry
  its_row = ap (λ r. row_by r entry.confirmed entry.id) (sym is)

  its_lawful : IsRow entry.row
  its_lawful = subst IsRow (sym is) lawful

  pub ran_makes : {T F : Type 0} (r : Result T F) → (IsTrue old.is_open → IsLaid old) → (IsTrue old.is_open → is_there ≡ true → IsThere old.now.trees (row_name entry.row))
      → OnOk r (Ran sql (row_by row entry.confirmed entry.id) old new) → OnOk r (Makes is_there entry old new)
  ran_makes (Ok x) laid there ran =
      put_made old new is_there entry its_lawful (laid ran.was_open) (there ran.was_open) (subst (λ p. Ran p (row_of entry) old new) its_text (subst (λ p. Ran sql p old new) its_row ran))
  ran_makes (Err e) laid there ran = tt
