-- What a call keeps of a registry. `counts` says which faults of the call count as faults of the store.
use Rattle.std.specs.Prelude.{ℕ, List, Result}
use Rattle.scim_resource.specs.Rows.{StoredRecord}
use Rattle.provider_core.specs.Stores.{OnlyReads, WritesOnce, Reopens}
use Rattle.provider_core.specs.declared.registry.Registry.{Ghosts}

-- the call only reads
abbrev pub Reads : {R T F : Type 0} → Ghosts R → (counts : ℕ → ℕ → F → Type 0) → (old new : R) → Result T F → Type 0
Reads g counts old new result =
    OnlyReads g.rows g.is_faithful g.is_honest g.may_hold g.faults g.writes counts old new result

-- the call changes the rows to `later` by one write at most
abbrev pub Writes : {R T F : Type 0} → Ghosts R → (counts : ℕ → ℕ → F → Type 0) → (old new : R)
    → (later : List StoredRecord) → Result T F → Type 0
Writes g counts old new later result =
    WritesOnce g.rows g.is_faithful g.is_honest g.may_hold g.faults g.writes counts old new later result

-- the call opens the store again
abbrev pub OpensAgain : {R T F : Type 0} → Ghosts R → (counts : ℕ → ℕ → F → Type 0) → (old new : R)
    → Result T F → Type 0
OpensAgain g counts old new result =
    Reopens g.rows g.is_faithful g.is_honest g.may_hold g.faults g.writes counts old new result
