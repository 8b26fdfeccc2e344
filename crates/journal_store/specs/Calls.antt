-- What a call keeps of a journal in SQLite, over the store of its pages.
use Rattle.std.specs.Prelude.{Ok, Err, Result}
use Rattle.sqlite_trees.specs.declared.store.Store.{Ghosts}
use Rattle.journal_core.specs.Entries.{EntryMap}
use Rattle.journal_core.specs.Stores.{CountsFault, OnlyReads, WritesOnce, Reopens}
use Rattle.scim_key.specs.declared.stores.StoreFault.{StoreFault}
use Rattle.journal_store.specs.Opening.{table_fault}
use Rattle.journal_store.specs.declared.statements.TableFault.{TableFault}
use Rattle.journal_store.specs.Kept.{Kept, IsFaithful, IsHonest, MayHold, kept_entries}

-- the call only reads
abbrev pub Reads : {S T : Type 0} → Ghosts S → (old new : Kept S) → Result T StoreFault → Type 0
Reads g old new result =
    OnlyReads (kept_entries g) (IsFaithful g) (IsHonest g) (MayHold g) (λ k. k.faults) (λ k. k.writes)
    CountsFault old new result

-- the call changes the entries to `later` by one write at most
abbrev pub Writes : {S T : Type 0} → Ghosts S → (old new : Kept S) → (later : EntryMap) → Result T StoreFault → Type 0
Writes g old new later result =
    WritesOnce (kept_entries g) (IsFaithful g) (IsHonest g) (MayHold g) (λ k. k.faults) (λ k. k.writes)
    CountsFault old new later result

-- the call opens the store again
abbrev pub OpensAgain : {S T : Type 0} → Ghosts S → (old new : Kept S) → Result T StoreFault → Type 0
OpensAgain g old new result =
    Reopens (kept_entries g) (IsFaithful g) (IsHonest g) (MayHold g) (λ k. k.faults) (λ k. k.writes)
    CountsFault old new result

-- the result of a call that writes, for that of its statements
abbrev pub call_result : {T : Type 0} → Result T TableFault → Result T StoreFault
call_result (Ok x) = Ok x
call_result (Err fault) = Err (table_fault fault)
