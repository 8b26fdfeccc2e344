-- What an opening looks for, what it finds, and what it leaves if it refuses.
use Rattle.std.specs.Prelude.{◌≡◌, ◌≢◌, ◌⊎◌, ℕ, ◌<◌, ◌≤◌, true, List, [], ◌∷◌, Some, IsTrue, length, codes}
use Rattle.sqlite_value.specs.Order.{Row}
use Rattle.sqlite_trees.specs.Tree.{Trees}
use Rattle.sqlite_schema.specs.declared.schema.Table.{Table}
use Rattle.sqlite_schema.specs.declared.schema.Schema.{Schema}
use Rattle.sqlite.specs.State.{State}
use Rattle.scim_key.specs.declared.records.RecordName.{RecordName}
use Rattle.scim_resource.specs.Rows.{StoredRecord}
use Rattle.provider_store.specs.Format.{provider_schema, resource_tree, resource_columns, name_places, format_number}
use Rattle.provider_store.specs.Rows.{shown_row, Holds}
use Rattle.provider_store.specs.Lawful.{AreAllLawful, IsUnlawfulAt}
use Rattle.provider_store.specs.Connections.{IsLaid, IsNamed, resources}
use Rattle.sql_tables.specs.Layouts.{IsBlank, IsFormat, IsOne, IsPlainTable, no_schema}
use Rattle.sql_tables.specs.Faults.{HasFailed}
use Rattle.provider_store.specs.declared.opening.RegistryOpenFault.{RegistryOpenFault}
use Rattle.provider_store.specs.declared.opening.RegistryOpenFault.TheVariants.{Store, Damaged, Newer, Memory}
use Rattle.scim_key.specs.declared.stores.StoreFault.{StoreFault}
use Rattle.scim_key.specs.declared.stores.StoreFault.TheVariants as store

-- ---- the tables

-- the table is that of the resources, in any order of its index
pub record IsResourceTable (table : Table) : Type 0 where
  pub name : table.name ≡ codes "resource"
  pub tree : table.tree ≡ resource_tree
  pub columns : table.columns ≡ resource_columns
  pub key : table.key ≡ Some 0
  pub primary : table.primary ≡ 0 ∷ []
  pub plain : IsPlainTable table
  pub uniques : table.uniques ≡ name_places ∷ []

-- the schema has exactly the tables of the format
abbrev pub IsProvider : Schema → Type 0
IsProvider = IsOne provider_schema

-- ---- faults

abbrev pub open_fault : StoreFault → RegistryOpenFault
open_fault store.Store = Store
open_fault store.Memory = Memory

-- the registry's fault for a fault of an opening
abbrev pub registry_fault : RegistryOpenFault → StoreFault
registry_fault Memory = store.Memory
registry_fault fault = store.Store

-- a fault that says that the store failed has this cause
abbrev pub OpenFailsFor : (failure : Type 0) → RegistryOpenFault → Type 0
OpenFailsFor failure Store = failure
OpenFailsFor failure fault = Unit {0}

-- the rows that were read are of another format, or damaged
abbrev pub IsOfRows : RegistryOpenFault → Type 0
IsOfRows Newer = Unit {0}
IsOfRows (Damaged number) = Unit {0}
IsOfRows fault = ⊥

-- a fault that reports a newer format, or damage with its number, has that cause
abbrev pub IsFor : Type 0 → (ℕ → Type 0) → RegistryOpenFault → Type 0
IsFor newer damaged Newer = newer
IsFor newer damaged (Damaged number) = damaged number
IsFor newer damaged fault = Unit {0}

-- ---- the rows

-- no two rows show resources with this name
abbrev pub IsAlone : List Row → RecordName → Type 0
IsAlone table name = (q r : Row) (s t : StoredRecord) → IsNamed table name q s → IsNamed table name r t
    → shown_row q ≡ shown_row r

-- ---- the store

-- the tables are of the format, and hold these records
pub record IsStore (s : State) (rows : List StoredRecord) : Type 0 where
  pub laid : IsLaid s
  pub format : IsFormat s format_number
  pub holds : Holds (resources s) rows
  pub lawful : AreAllLawful (resources s) (length rows)

-- what is in a store: the records of its tables, or none if there are no tables
abbrev pub Stands : State → List StoredRecord → Type 0
Stands s rows = IsStore s rows ⊎ (IsBlank s × (rows ≡ []))

-- ---- what is refused

-- there are tables, but not those of the format
pub record IsForeign (s : State) : Type 0 where
  pub stand : s.now.schema ≢ no_schema
  pub other : IsProvider s.now.schema → ⊥

-- the tables aren't those of the format, or a transaction is open
abbrev pub IsNotLaid : State → Type 0
IsNotLaid s = IsProvider s.now.schema → s.in_transaction ≡ true

-- the table of the format doesn't show one number, equal to this format's or greater
abbrev pub IsUnmarked : State → Type 0
IsUnmarked s = (number : ℕ) → format_number ≤ number → IsFormat s number → ⊥

-- the tables have the number of the format, and the row that an opening refuses has this number
pub record HasUnlawful (s : State) (number : ℕ) : Type 0 where
  pub format : IsFormat s format_number
  pub row : IsUnlawfulAt (resources s) number

-- the tables are of the format, but the number of the format isn't valid, or the row with this number isn't
abbrev pub IsSpoilt : State → ℕ → Type 0
IsSpoilt s number = IsProvider s.now.schema × (((number ≡ 0) × IsUnmarked s) ⊎ HasUnlawful s number)

-- the tables aren't a valid store
abbrev pub IsDamaged : State → ℕ → Type 0
IsDamaged s number = ((number ≡ 0) × IsForeign s) ⊎ IsSpoilt s number

-- the table of the format has the number of a newer format
abbrev pub IsNewer : State → Type 0
IsNewer s = (number : ℕ) × (format_number < number) × IsFormat s number

-- why an opening refuses a store
abbrev pub IsCause : State → RegistryOpenFault → Type 0
IsCause s = IsFor (IsNewer s) (IsDamaged s)

-- why an opening says that the store failed: a transaction was open, the tables weren't there and couldn't be made, or
-- a statement that checks them failed
abbrev pub OpeningFails : (old new : State) → Type 0
OpeningFails old new = IsTrue old.in_transaction ⊎ ((old.now.schema ≡ no_schema) ⊎ HasFailed old new)

-- why a reopening refuses the tables: they have the number of a newer format, or they aren't a valid store
abbrev pub IsUnfit : State → Type 0
IsUnfit s = IsNewer s ⊎ ((number : ℕ) × (((number ≡ 0) × IsNotLaid s) ⊎ IsSpoilt s number))

-- a stop leaves no row
abbrev pub LeavesNone : Trees → Type 0
LeavesNone db = db resource_tree ≡ []
