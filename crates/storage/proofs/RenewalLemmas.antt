-- The entries of a journal whose files are connected to anew.
use Rattle.std.proofs.Common.{◌≡◌, ◌≤◌, ℕ, length, sym, ap, ◌∙◌, subst, inl, inr, arith}
use Rattle.sqlite_disk.specs.declared.Disk.{Ghosts}
use Rattle.sqlite_trees.specs.Objects.{catalog_tree}
use Rattle.sqlite_trees.specs.Tree.{Trees}
use Rattle.sqlite_schema.specs.declared.schema.Schema.{Schema}
use Rattle.sqlite_catalog.specs.Listing.{Lists}
use Rattle.sqlite_catalog.proofs.ReadLemmas.{lists_once}
use Rattle.sqlite_store.specs.declared.store.FileStore.{FileStore}
use Rattle.sqlite.specs.Effect.{Database}
use Rattle.sqlite.specs.Files.{file_state}
use Rattle.sqlite.specs.Held.{Held}
use Rattle.sqlite.specs.State.{IsLive}
use Rattle.sql_tables.specs.Layouts.{no_schema}
use Rattle.journal_core.specs.Entries.{EntryMap}
use Rattle.journal_store.specs.Connections.{IsLaid}
use Rattle.journal_store.specs.Older.Format.{first_schema, second_schema}
use Rattle.journal_store.specs.Format.{journal_schema}
use Rattle.journal_store.specs.Opening.{Stands}
use Rattle.journal_store.specs.Rows.{entries_in}
use Rattle.storage.specs.Closed.{IsRenewed}

other_than : (s t : Schema) → s ≡ t → (length s.tables ≡ length t.tables → ⊥) → ⊥
other_than s t same other = other (ap (λ (schema : Schema). length schema.tables) same)

module _ {D : Type 0} {g : Ghosts D} (old new : Held (FileStore D g)) (renewed : IsRenewed old new) (laid : IsLaid (file_state old)) (live : IsLive (file_state old)) where
  trees : (file_state new).now.trees ≡ (file_state old).committed.trees
  trees = ap (λ (d : Database). d.trees) renewed.connected.0.clean ∙ renewed.same

  -- a database has one schema
  schema : (file_state new).now.schema ≡ journal_schema laid.form
  schema =
      let objects = (file_state old).committed.trees catalog_tree in
      let there : Lists objects (file_state new).now.schema = subst (λ (t : Trees). Lists (t catalog_tree) (file_state new).now.schema) trees (renewed.connected.1 renewed.connected.0.is_open).0.lists in
      let is : (file_state old).committed.schema ≡ journal_schema laid.form = ap (λ (d : Database). d.schema) laid.committed ∙ laid.schema in
      lists_once objects (file_state new).now.schema (journal_schema laid.form) there (subst (Lists objects) is (live renewed.was_open).1.lists)

  pub same_entries : (found : EntryMap) → Stands (file_state new) found → found ≡ entries_in (file_state old).committed.trees
  same_entries found (inl store) = sym store.are ∙ ap entries_in trees
  same_entries found (inr (inl (inl second))) = absurd (other_than (second_schema second.laid.form) (journal_schema laid.form) (sym second.laid.schema ∙ schema) (λ e. omega (arith, e)))
  same_entries found (inr (inl (inr first))) = absurd (other_than (first_schema first.laid.form) (journal_schema laid.form) (sym first.laid.schema ∙ schema) (λ e. omega (arith, e)))
  same_entries found (inr (inr blank)) = absurd (other_than no_schema (journal_schema laid.form) (sym blank.0.schema ∙ schema) (λ e. omega (arith, e)))

pub none_left : {a b : ℕ} → a ≤ b → b ≡ 0 → a ≡ 0
none_left {a} {b} within none = omega (arith, within, none)
