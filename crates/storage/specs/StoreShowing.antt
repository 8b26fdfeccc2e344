-- What is shown of a store.
use Rattle.std.specs.Prelude.{◌≡◌, ℕ, List, Option}
use Rattle.std.specs.Io.KnownBytes.{Appends}
use Rattle.scim_resource.specs.Rows.{StoredRecord}
use Rattle.provider_core.specs.declared.registry.Registry.{Ghosts}
use Rattle.storage.specs.StoreOpened.{IsOpenedAt}
use Rattle.storage.specs.StoreLines.{lines_of}

-- a call that only reads: if the store is faithful after it, it was faithful before, and the rows are the same
pub record ReadsOn {R : Type 0} (g : Ghosts R) (old new : R) : Type 0 where
  pub was : g.is_faithful new → g.is_faithful old
  pub same : g.is_faithful new → g.rows new ≡ g.rows old

-- a line for each row that was opened is written, in order
pub record ShowsFrom {R : Type 0} (g : Ghosts R) (finds : List StoredRecord → Type 0)
    (before after : Option (List ℕ)) : Type 0 where
  pub first : R
  pub last : R
  pub opened : IsOpenedAt g finds first
  pub lines : g.is_faithful last → Appends before after (lines_of (g.rows first))
