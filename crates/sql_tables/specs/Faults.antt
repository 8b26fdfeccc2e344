-- What the error of a statement means, and why the store is to blame.
use Rattle.std.specs.Prelude.{◌≡◌, ◌⊎◌, false, IsSome}
use Rattle.sqlite.specs.State.{State}
use Rattle.sqlite.specs.declared.error.ErrorCode.TheVariants as code
use Rattle.sqlite.specs.declared.error.Error.{Error}
use Rattle.sqlite.specs.declared.error.Error.TheVariants.{SqliteFailure}
use Rattle.scim_key.specs.Stores.{HasRisen}
use Rattle.scim_key.specs.declared.stores.StoreFault.{StoreFault}
use Rattle.scim_key.specs.declared.stores.StoreFault.TheVariants.{Store, Memory}

-- out of memory, or the store failed
abbrev pub statement_fault : Error → StoreFault
statement_fault (SqliteFailure code.OutOfMemory) = Memory
statement_fault error = Store

-- why a statement fails although there is memory: the connection was shut, the disk failed or refused a call meanwhile,
-- or a limit on steps is set
abbrev pub HasFailed : (old new : State) → Type 0
HasFailed old new = (old.is_open ≡ false) ⊎ (HasRisen old.faults new.faults ⊎ IsSome old.step_limit)

-- a fault that says that the store failed has this cause
abbrev pub FailsFor : (failure : Type 0) → StoreFault → Type 0
FailsFor failure Store = failure
FailsFor failure Memory = Unit {0}
