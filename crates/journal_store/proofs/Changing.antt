-- What the calls of a journal make of its entries.
use Rattle.std.proofs.Common.{◌≡◌, ◌++◌, List, Option, Some, None, refl, sym, ap, ◌∙◌, subst, inl}
use Rattle.std.specs.FinMap.{get, insert}
use Rattle.sqlite_trees.specs.Tree.{Trees}
use Rattle.sqlite_trees.specs.declared.store.Store.{Ghosts}
use Rattle.sqlite.specs.Effect.{Database}
use Rattle.sqlite.specs.Held.{state}
use Rattle.sqlite.specs.State.{State}
use Rattle.scim_key.proofs.RevisionLaws.{are_read_back}
use Rattle.scim_key.specs.Revisions.{IsNoneOrRevision, no_revision}
use Rattle.scim_key.specs.declared.records.Kind.TheVariants as kind
use Rattle.scim_key.specs.declared.records.RecordName.{RecordName}
use Rattle.source_csv.specs.Records.{IsRow, row_name}
use Rattle.source_csv.specs.declared.rows.Row as source
use Rattle.journal_core.specs.Entries.{EntryMap, IsListOf, entry_with, with_row}
use Rattle.journal_core.specs.declared.entries.Entry.{Entry}
use Rattle.journal_store.specs.Format.{entry_tree}
use Rattle.journal_store.specs.Rows.{entries_in, entry_in, row_of, shown_row}
use Rattle.journal_store.specs.Connections.{Finds, ListsAll}
use Rattle.journal_store.specs.Kept.{Kept, IsFaithful, kept_entries}
use Rattle.journal_store.proofs.Decoding.{known_from, reads_back}
use Rattle.journal_store.proofs.Loading.{lists_both}

-- what an entry that is found has confirmed is none or a valid revision
pub known_found : (db : Trees) (name : RecordName) (held : Option Entry) → Finds db name held → (e : Entry) → held ≡ Some e → IsNoneOrRevision e.confirmed
known_found db name None finds e is = absurd (cc)
known_found db name (Some x) finds e is = let same : x ≡ e = cc in subst (λ (y : Entry). IsNoneOrRevision y.confirmed) same (known_from name.kind (shown_row name.kind finds.0) x finds.2.entry_is)

-- an entry that is put reads back from its columns
pub spelled : (row : source.Row) (held : Option Entry) → ((e : Entry) → held ≡ Some e → IsNoneOrRevision e.confirmed) → IsRow (entry_with row held).row
    → entry_in (row_name (entry_with row held).row).kind (row_of (entry_with row held)) ≡ Some (entry_with row held)
spelled row None known lawful = reads_back row no_revision None lawful (are_read_back.confirmed_from_parts no_revision (inl refl))
spelled row (Some e) known lawful = reads_back row e.confirmed e.id lawful (are_read_back.confirmed_from_parts e.confirmed (known e refl))

-- and is that of the entries with its row
pub wanted : (m : EntryMap) (row : source.Row) (held : Option Entry) → get m (row_name row) ≡ held → insert m (row_name (entry_with row held).row) (entry_with row held) ≡ with_row m row
wanted m row None is = λ i. insert m (row_name row) (entry_with row (sym is i))
wanted m row (Some e) is = λ i. insert m (row_name row) (entry_with row (sym is i))

module _ {S : Type 0} (g : Ghosts S) where
  abbrev at : Kept S → State
  at k = state g k.conn

  -- a faithful journal's entries are those in its tables now
  entries_now : (k : Kept S) → IsFaithful g k → entries_in (at k).now.trees ≡ kept_entries g k
  entries_now k it = sym (ap (λ (d : Database). entries_in d.trees) it.whole.laid.committed)

  pub loaded : (old mid new : Kept S) (users groups all : List Entry) → all ≡ users ++ groups → IsFaithful g new → kept_entries g new ≡ kept_entries g old → (at new).now.trees ≡ (at mid).now.trees
      → ListsAll kind.User (at mid).now.trees users → ListsAll kind.Group (at new).now.trees groups → IsListOf (kept_entries g old) all
  loaded old mid new users groups all both it same trees first second =
      subst (IsListOf (kept_entries g old)) (sym both) (subst (λ m. IsListOf m (users ++ groups)) (entries_now new it ∙ same) (lists_both entry_tree shown_row (at new).now.trees users groups (subst (λ t. ListsAll kind.User t users) (sym trees) first) second))
