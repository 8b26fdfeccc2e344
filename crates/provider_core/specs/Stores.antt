-- What each call of a store of rows keeps, and which faults the store counts.
use Rattle.std.specs.Prelude.{◌≡◌, ℕ, ◌≤◌, List, Some}
pub use Rattle.scim_key.specs.Stores.{HasRisen, CountsFault, CountsFaults, LeavesNoMore, LeavesOr, OnlyReads, WritesOnce, Reopens, IsQuiet}
use Rattle.scim_resource.specs.Contents.{content_name}
use Rattle.scim_resource.specs.Rows.{StoredRecord}
use Rattle.provider_core.specs.Rows.{row_numbered}
use Rattle.scim_key.specs.declared.stores.StoreFault.{StoreFault}
use Rattle.scim_key.specs.declared.stores.StoreFault.TheVariants as store
use Rattle.provider_core.specs.declared.provider.ProviderFault.{ProviderFault}
use Rattle.provider_core.specs.declared.provider.ProviderFault.TheVariants as provider

-- a fault of the store is counted; out of memory isn't
abbrev pub CountsProviderFault : (old new : ℕ) → ProviderFault → Type 0
CountsProviderFault old new provider.Store = (old ≤ new) × HasRisen old new
CountsProviderFault old new provider.Memory = new ≡ old

-- the provider's fault for a fault of its registry
abbrev pub provider_fault : StoreFault → ProviderFault
provider_fault store.Store = provider.Store
provider_fault store.Memory = provider.Memory

-- a row with this number is there, and it is of the same record
pub record HoldsNumber (rows : List StoredRecord) (row : StoredRecord) : Type 0 where
  pub held : StoredRecord
  pub there : row_numbered row.number rows ≡ Some held
  pub name : content_name held.content ≡ content_name row.content
