-- What a call keeps of a registry in SQLite, over the store of its pages.
use Rattle.std.specs.Prelude.{List, Result}
use Rattle.sqlite_trees.specs.declared.store.Store.{Ghosts}
use Rattle.scim_resource.specs.Rows.{StoredRecord}
use Rattle.provider_core.specs.Stores.{CountsFault, OnlyReads, WritesOnce, Reopens}
use Rattle.scim_key.specs.declared.stores.StoreFault.{StoreFault}
use Rattle.provider_store.specs.Kept.{Kept, IsFaithful, IsHonest, MayHold, kept_rows}

-- the call only reads
abbrev pub Reads : {S T : Type 0} → Ghosts S → (old new : Kept S) → Result T StoreFault → Type 0
Reads g old new result =
    OnlyReads (kept_rows g) (IsFaithful g) (IsHonest g) (MayHold g) (λ k. k.faults) (λ k. k.writes)
    CountsFault old new result

-- the call changes the rows to `later` by one write at most
abbrev pub Writes : {S T : Type 0} → Ghosts S → (old new : Kept S) → (later : List StoredRecord)
    → Result T StoreFault → Type 0
Writes g old new later result =
    WritesOnce (kept_rows g) (IsFaithful g) (IsHonest g) (MayHold g) (λ k. k.faults) (λ k. k.writes)
    CountsFault old new later result

-- the call opens the store again
abbrev pub OpensAgain : {S T : Type 0} → Ghosts S → (old new : Kept S) → Result T StoreFault → Type 0
OpensAgain g old new result =
    Reopens (kept_rows g) (IsFaithful g) (IsHonest g) (MayHold g) (λ k. k.faults) (λ k. k.writes)
    CountsFault old new result
