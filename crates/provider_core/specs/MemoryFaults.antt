-- The faults of a registry in memory, and of a provider over it.
use Rattle.std.specs.Prelude.{◌≡◌, ℕ}
use Rattle.provider_core.specs.Memory.{MemoryRecord}
use Rattle.provider_core.specs.Stores.{CountsProviderFault}
use Rattle.provider_core.specs.contracts.memory.MemoryRegistryRegistry.TheImpl as impl
use Rattle.provider_core.specs.declared.provider.ProviderFault.{ProviderFault}
use Rattle.provider_core.specs.declared.provider.ProviderFault.TheVariants as provider

-- the faults that a registry in memory counts
abbrev pub memory_faults : MemoryRecord → ℕ
memory_faults = (impl.ghosts).faults

-- the only fault of a registry in memory is out of memory
abbrev pub OnlyMemoryWants : Type 0
OnlyMemoryWants = (old new : MemoryRecord) (fault : ProviderFault)
    → CountsProviderFault (memory_faults old) (memory_faults new) fault → fault ≡ provider.Memory

-- a registry in memory is always faithful
abbrev pub AlwaysFaithful : Type 0
AlwaysFaithful = (r : MemoryRecord) → (impl.ghosts).is_faithful r
