-- What the error of a statement means.
use Rattle.sqlite.specs.declared.error.Error.{Error}
use Rattle.sql_tables.specs.Faults.{statement_fault as fault_of}
use Rattle.scim_key.specs.declared.stores.StoreFault.{StoreFault}
use Rattle.scim_key.specs.declared.stores.StoreFault.TheVariants as store
use Rattle.scim_key.specs.declared.names.NameFault.{NameFault}
use Rattle.scim_key.specs.declared.names.NameFault.TheVariants as name
use Rattle.journal_store.specs.declared.statements.TableFault.{TableFault}
use Rattle.journal_store.specs.declared.statements.TableFault.TheVariants.{Store, Damaged, Memory}

-- a fault that reports damage has this cause
abbrev pub HasCause : (damage : Type 0) → TableFault → Type 0
HasCause damage Damaged = damage
HasCause damage fault = Unit {0}

abbrev pub table_of : StoreFault → TableFault
table_of store.Store = Store
table_of store.Memory = Memory

-- out of memory, or the store failed
abbrev pub statement_fault : Error → TableFault
statement_fault error = table_of (fault_of error)

-- a statement that fails reports no damage
abbrev pub IsOfStatement : TableFault → Type 0
IsOfStatement = HasCause ⊥

-- a row that was read is invalid, or memory ran out: neither is a fault of the store
abbrev pub IsOfRow : TableFault → Type 0
IsOfRow Store = ⊥
IsOfRow fault = Unit {0}

-- a fault that says that the store failed has this cause
abbrev pub FailsFor : (failure : Type 0) → TableFault → Type 0
FailsFor failure Store = failure
FailsFor failure fault = Unit {0}

-- a text that isn't a valid name is damage
abbrev pub name_damage : NameFault → TableFault
name_damage name.Memory = Memory
name_damage fault = Damaged
