-- Why what is kept wasn't shown whole, if a call of its store failed.
use Rattle.std.specs.Prelude.{⊤}
use Rattle.scim_key.specs.declared.stores.StoreFault.{StoreFault}
use Rattle.scim_key.specs.declared.stores.StoreFault.TheVariants as store
use Rattle.provider_store.specs.declared.opening.RegistryOpenFault.TheVariants as opening
use Rattle.journal_store.specs.declared.opening.JournalOpenFault.TheVariants as journal_opening
use Rattle.storage.specs.declared.show_fault.ShowFault.{ShowFault}
use Rattle.storage.specs.declared.show_fault.ShowFault.TheVariants.{Store, Journal, NoStore, Memory}

abbrev pub registry_fault : StoreFault → ShowFault
registry_fault store.Store = Store opening.Store
registry_fault store.Memory = Memory

abbrev pub journal_fault : StoreFault → ShowFault
journal_fault store.Store = Journal journal_opening.Store
journal_fault store.Memory = Memory

-- there was a store
abbrev pub IsOfStore : ShowFault → Type 0
IsOfStore NoStore = ⊥
IsOfStore fault = ⊤
