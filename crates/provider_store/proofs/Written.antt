-- What the two writes leave, as the rows of the records.
use Rattle.std.proofs.Common.{◌≡◌, ◌≤◌, ℕ, pos, List, [], ◌∷◌, None, Ok, IsTrue, refl, ap, ◌∙◌, subst, ℤ, arith}
use Rattle.sqlite_value.specs.declared.value.Value.TheVariants.{Int, Text}
use Rattle.sqlite_value.specs.Order.{Row, column}
use Rattle.sqlite_trees.specs.Tree.{Trees}
use Rattle.sqlite.specs.Does.{Tally, Does}
use Rattle.sqlite.specs.Effect.{Database}
use Rattle.sqlite.specs.State.{State}
use Rattle.scim_resource.specs.Contents.{content_kind, content_name}
use Rattle.scim_resource.specs.Rows.{StoredRecord, IsStored, last_version}
use Rattle.scim_key.specs.Identifiers.{last_number}
use Rattle.provider_store.specs.Format.{provider_schema, insert_text, update_text}
use Rattle.provider_store.specs.Rows.{kind_code}
use Rattle.provider_store.specs.Connections.{IsLaid, IsSpelled, IsThere, Makes, Leaves, added, renewed, resources, content_text}
use Rattle.provider_store.proofs.Texts.{insert_is, update_command, update_is}
use Rattle.provider_store.proofs.Writing.{inserts, updates}
use Rattle.sql_tables.proofs.Editing.{command_is, edits_by}
use Rattle.provider_store.proofs.Holding.{number_of}
use Rattle.sql_tables.specs.Statements.{IsEditText, Ran, MayLeave, plain_mode}
use Rattle.scim_key.specs.declared.records.RecordName.{RecordName}
use Rattle.sqlite.specs.State.{HasCleanDisk, Survives}
use Rattle.sqlite.proofs.StateLemmas.{survives_weaker}

-- ---- the texts

pub insert_edits : IsEditText provider_schema insert_text
insert_edits = edits_by insert_is tt

pub update_edits : IsEditText provider_schema update_text
update_edits = edits_by update_is tt

-- ---- an insertion

abbrev pub insert_params : StoredRecord → Row
insert_params s = Int (pos s.number) ∷ Int (pos (kind_code (content_kind s.content))) ∷ Text (content_name s.content).key ∷ Int (pos s.version) ∷ Text (content_text s.content) ∷ []

pub inserted : (old new : State) (s : StoredRecord) → IsLaid old → IsSpelled s → IsStored s → Ran insert_text (insert_params s) old new → Makes old new s (added s (resources old))
inserted old new s laid spelled lawful ran =
    let command = command_is insert_is old ran.compiled laid ran.is in
    let does = subst (λ k. Does ran.limit plain_mode (insert_params s) old.now ran.text None k (Ok (ran.tally, new.now))) command ran.does in
    let made = inserts ran.limit laid.form old.now new.now ran.tally ran.text laid.schema (pos s.number) (pos (kind_code (content_kind s.content))) (pos s.version) (content_name s.content).key (content_text s.content) does in
    record {
      was_open = ran.was_open;
      is_open = ran.is_open;
      lawful = lawful;
      spelled = spelled;
      rows = made.1;
      laid = record { form = laid.form; schema = made.0; committed = (ran.settled laid.autocommit).0; autocommit = (ran.settled laid.autocommit).1 };
    }

pub insert_leaves : (old : State) (s : StoredRecord) (db : Trees) → IsLaid old → IsSpelled s → IsStored s → MayLeave insert_text (insert_params s) old db → Leaves s (added s (resources old)) db
insert_leaves old s db laid spelled lawful may =
    let command = command_is insert_is old may.compiled laid may.is in
    let does = subst (λ k. Does may.limit plain_mode (insert_params s) old.now may.text None k (Ok (may.tally, may.after))) command may.does in
    let made = inserts may.limit laid.form old.now may.after may.tally may.text laid.schema (pos s.number) (pos (kind_code (content_kind s.content))) (pos s.version) (content_name s.content).key (content_text s.content) does in
    record { lawful = lawful; spelled = spelled; rows = ap (λ (t : Trees). t 1) may.trees ∙ made.1 }

-- ---- an update

abbrev pub update_params : StoredRecord → Row
update_params s = Int (pos s.number) ∷ Int (pos s.version) ∷ Text (content_text s.content) ∷ []

renews : (limit : Rattle.std.specs.Prelude.Option ℕ) (old : State) (after : Database) (tally : Tally) (sql : List ℕ) (s : StoredRecord) (laid : IsLaid old) → IsThere (resources old) s
    → Does limit plain_mode (update_params s) old.now sql None update_command (Ok (tally, after))
    → (after.schema ≡ provider_schema laid.form) × (after.trees 1 ≡ renewed s (resources old))
renews limit old after tally sql s laid there does =
    let h = there.held in
    let number : column there.row 0 ≡ Int (pos s.number) = number_of there.row h s.number (resources old) there.shows there.only in
    let kind : column there.row 2 ≡ Int (pos (kind_code (content_kind s.content))) = ap (λ row. column row 1) there.shows.shows ∙ ap (λ (n : RecordName). Int (pos (kind_code n.kind))) there.named in
    let key : column there.row 3 ≡ Text (content_name s.content).key = ap (λ row. column row 2) there.shows.shows ∙ ap (λ (n : RecordName). Text n.key) there.named in
    updates limit laid.form old.now after tally sql laid.schema (pos s.number) (pos (kind_code (content_kind s.content))) (pos s.version) (content_name s.content).key (content_text s.content)
    there.row there.only number kind key does

pub updated : (old new : State) (s : StoredRecord) → IsLaid old → IsThere (resources old) s → IsSpelled s → IsStored s → Ran update_text (update_params s) old new → Makes old new s (renewed s (resources old))
updated old new s laid there spelled lawful ran =
    let command = command_is update_is old ran.compiled laid ran.is in
    let does = subst (λ k. Does ran.limit plain_mode (update_params s) old.now ran.text None k (Ok (ran.tally, new.now))) command ran.does in
    let made = renews ran.limit old new.now ran.tally ran.text s laid there does in
    record {
      was_open = ran.was_open;
      is_open = ran.is_open;
      lawful = lawful;
      spelled = spelled;
      rows = made.1;
      laid = record { form = laid.form; schema = made.0; committed = (ran.settled laid.autocommit).0; autocommit = (ran.settled laid.autocommit).1 };
    }

pub update_leaves : (old : State) (s : StoredRecord) (db : Trees) → IsLaid old → IsThere (resources old) s → IsSpelled s → IsStored s → MayLeave update_text (update_params s) old db → Leaves s (renewed s (resources old)) db
update_leaves old s db laid there spelled lawful may =
    let command = command_is update_is old may.compiled laid may.is in
    let does = subst (λ k. Does may.limit plain_mode (update_params s) old.now may.text None k (Ok (may.tally, may.after))) command may.does in
    let made = renews may.limit old may.after may.tally may.text s laid there does in
    record { lawful = lawful; spelled = spelled; rows = ap (λ (t : Trees). t 1) may.trees ∙ made.1 }

-- ---- the same, of the values that a call gave

pub same_params : (a b c d : ℤ) (k l t u : List ℕ) (m n : ℤ) → a ≡ b → c ≡ d → k ≡ l → m ≡ n → t ≡ u → ◌≡◌ {A = Row} (Int a ∷ Int c ∷ Text k ∷ Int m ∷ Text t ∷ []) (Int b ∷ Int d ∷ Text l ∷ Int n ∷ Text u ∷ [])
same_params a b c d k l t u m n p q r v w = rw (p, q, r, v, w) refl

pub three_params : (a b m n : ℤ) (t u : List ℕ) → a ≡ b → m ≡ n → t ≡ u → ◌≡◌ {A = Row} (Int a ∷ Int m ∷ Text t ∷ []) (Int b ∷ Int n ∷ Text u ∷ [])
three_params a b m n t u p q r = rw (p, q, r) refl

module _ (old new : State) (s : StoredRecord) (params : Row) (spelled : IsSpelled s) (lawful : IsStored s) where
  pub insert_made : params ≡ insert_params s → IsLaid old → Ran insert_text params old new → Makes old new s (added s (resources old))
  insert_made is laid it = inserted old new s laid spelled lawful (subst (λ p. Ran insert_text p old new) is it)

  pub insert_stops : params ≡ insert_params s → (HasCleanDisk old → IsTrue old.is_open → IsLaid old) → Survives old new (MayLeave insert_text params old)
      → Survives old new (λ db. IsTrue old.is_open × Leaves s (added s (resources old)) db)
  insert_stops is laid it =
      survives_weaker old new _ _ (λ clean db may.
      let early : HasCleanDisk old = omega (arith, clean, it.clean) in
      (may.was_open, insert_leaves old s db (laid early may.was_open) spelled lawful (subst (λ p. MayLeave insert_text p old db) is may))) it

  pub update_made : params ≡ update_params s → IsLaid old → IsThere (resources old) s → Ran update_text params old new → Makes old new s (renewed s (resources old))
  update_made is laid there it = updated old new s laid there spelled lawful (subst (λ p. Ran update_text p old new) is it)

  pub update_stops : params ≡ update_params s → (HasCleanDisk old → IsTrue old.is_open → IsLaid old) → (HasCleanDisk old → IsTrue old.is_open → IsThere (resources old) s)
      → Survives old new (MayLeave update_text params old) → Survives old new (λ db. IsTrue old.is_open × Leaves s (renewed s (resources old)) db)
  update_stops is laid there it =
      survives_weaker old new _ _ (λ clean db may.
      let early : HasCleanDisk old = omega (arith, clean, it.clean) in
      (may.was_open, update_leaves old s db (laid early may.was_open) (there early may.was_open) spelled lawful (subst (λ p. MayLeave update_text p old db) is may))) it

pub lawful_row : (s : StoredRecord) (n v : ℕ) → n ≡ s.number → v ≡ s.version → 1 ≤ n → n ≤ last_number → 1 ≤ v → v ≤ last_version → IsStored s
lawful_row s n v number version a b c d = record { numbered = omega (arith, number, a); number_within = omega (arith, number, b); versioned = omega (arith, version, c); version_within = omega (arith, version, d) }
