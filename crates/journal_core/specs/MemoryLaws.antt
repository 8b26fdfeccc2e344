-- The faults of a journal in memory.
use Rattle.std.specs.Prelude.{◌≡◌, ℕ}
use Rattle.journal_core.specs.Memory.{MemoryRecord}
use Rattle.journal_core.specs.Stores.{CountsFault}
use Rattle.journal_core.specs.contracts.memory.MemoryJournalJournal.TheImpl as journal
use Rattle.scim_key.specs.declared.stores.StoreFault.{StoreFault}
use Rattle.scim_key.specs.declared.stores.StoreFault.TheVariants.{Memory}

-- the faults that a journal in memory counts
abbrev pub memory_faults : MemoryRecord → ℕ
memory_faults = (journal.ghosts).faults

-- a journal in memory is always faithful, and its only fault is out of memory
pub record StaysInMemory : Type 0 where
  pub faithful : (r : MemoryRecord) → (journal.ghosts).is_faithful r
  pub memory : (old new : MemoryRecord) (fault : StoreFault)
      → CountsFault (memory_faults old) (memory_faults new) fault → fault ≡ Memory
