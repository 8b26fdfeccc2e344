-- What a call keeps of a journal. `counts` says which faults of the call count as faults of the store.
use Rattle.std.specs.Prelude.{ℕ, Result}
use Rattle.journal_core.specs.Entries.{EntryMap}
use Rattle.journal_core.specs.Stores.{OnlyReads, WritesOnce, Reopens}
use Rattle.journal_core.specs.declared.journals.Journal.{Ghosts}

-- the call only reads
abbrev pub Reads : {J T F : Type 0} → Ghosts J → (counts : ℕ → ℕ → F → Type 0) → (old new : J) → Result T F → Type 0
Reads g counts old new result =
    OnlyReads g.entries g.is_faithful g.is_honest g.may_hold g.faults g.writes counts old new result

-- the call changes the entries to `later` by one write at most
abbrev pub Writes : {J T F : Type 0} → Ghosts J → (counts : ℕ → ℕ → F → Type 0) → (old new : J)
    → (later : EntryMap) → Result T F → Type 0
Writes g counts old new later result =
    WritesOnce g.entries g.is_faithful g.is_honest g.may_hold g.faults g.writes counts old new later result

-- the call opens the store again
abbrev pub OpensAgain : {J T F : Type 0} → Ghosts J → (counts : ℕ → ℕ → F → Type 0) → (old new : J)
    → Result T F → Type 0
OpensAgain g counts old new result =
    Reopens g.entries g.is_faithful g.is_honest g.may_hold g.faults g.writes counts old new result
