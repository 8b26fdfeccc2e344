-- What a look-up reports of what it found, and how a call ends.
use Rattle.std.specs.Prelude.{◌≡◌, Option, Some, None, Result, Ok, Err}
use Rattle.scim_key.specs.declared.stores.StoreFault.{StoreFault}
use Rattle.scim_resource.specs.Rows.{StoredRecord}
use Rattle.provider_store.specs.declared.tables.Found.{Found}
use Rattle.provider_store.specs.declared.tables.Found.TheVariants.{Nothing, Damaged, There}
use Rattle.scim_key.specs.declared.stores.StoreFault.TheVariants.{Store}

abbrev pub found_of : Option StoredRecord → Found
found_of None = Nothing
found_of (Some s) = There s

-- a look-up that fails has the fault of its statement, or found rows that don't show one record, which is a fault of
-- the store
abbrev pub IsFaultOf : Result Found StoreFault → StoreFault → Type 0
IsFaultOf (Ok Damaged) fault = fault ≡ Store
IsFaultOf (Ok found) fault = ⊥
IsFaultOf (Err given) fault = fault ≡ given

-- a page that wasn't found whole is a fault of the store; otherwise the statement's fault is reported
abbrev pub IsPageFault : {T : Type 0} (IsWhole : T → Type 0) → Result (Option T) StoreFault → StoreFault → Type 0
IsPageFault IsWhole (Ok None) fault = fault ≡ Store
IsPageFault IsWhole (Ok (Some page)) fault = (fault ≡ Store) × (IsWhole page → ⊥)
IsPageFault IsWhole (Err given) fault = fault ≡ given

-- a call that succeeded, and a call that failed
abbrev pub answered : Result (Unit {0}) StoreFault
answered = Ok tt

abbrev pub failing : {T : Type 0} → StoreFault → Result T StoreFault
failing fault = Err fault
