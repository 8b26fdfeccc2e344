-- A run over a copy of a journal's entries.
use Rattle.std.specs.Prelude.{List}
use Rattle.scim_key.specs.declared.stores.StoreFault.{StoreFault}
use Rattle.scim_key.specs.declared.stores.StoreFault.TheVariants as store
use Rattle.journal_core.specs.Entries.{EntryMap, IsListOf}
use Rattle.journal_core.specs.declared.entries.Entry.{Entry}
use Rattle.connector_core.specs.Maps.{BookMap}
use Rattle.connector_core.specs.State.{IsOpened}
use Rattle.provisioning.specs.declared.faults.RunFault.{RunFault}
use Rattle.provisioning.specs.declared.faults.RunFault.TheVariants as run

-- the book is that of a connector over the journal that has these entries
abbrev pub IsOver : List Entry → BookMap → Type 0
IsOver list book = (entries : EntryMap) → IsListOf entries list → IsOpened entries book

-- what ends a run if its journal can't be read
abbrev pub fault_of : StoreFault → RunFault
fault_of store.Store = run.Journal
fault_of store.Memory = run.Memory
