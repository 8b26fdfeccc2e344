-- Why a call fails although there is memory.
use Rattle.std.proofs.Common.{◌⊎◌, ℕ, Result, Ok, Err, IfOk, IfErr, sym, subst, inl, inr}
use Rattle.sql_tables.specs.Faults.{FailsFor}
use Rattle.sql_tables.proofs.Failing.{fails_by, fails_so}
use Rattle.scim_key.specs.declared.stores.StoreFault.{StoreFault}
use Rattle.provider_store.specs.Lookups.{IsFaultOf}
use Rattle.provider_store.specs.Opening.{IsFor, OpenFailsFor, registry_fault}
use Rattle.provider_store.specs.declared.opening.RegistryOpenFault.{RegistryOpenFault}
use Rattle.provider_store.specs.declared.opening.RegistryOpenFault.TheVariants as opening
use Rattle.provider_store.specs.declared.tables.Found.{Found}
use Rattle.provider_store.specs.declared.tables.Found.TheVariants.{Nothing, Damaged, There}

pub look_up_failed : (P : Type 0) (Q : Found → Type 0) (found : Result Found StoreFault) (fault : StoreFault) → IsFaultOf found fault → IfOk found Q → IfErr found (FailsFor P) → FailsFor (P ⊎ Q Damaged) fault
look_up_failed P Q (Ok Damaged) fault is shows fails = fails_so (P ⊎ Q Damaged) (inr shows) fault
look_up_failed P Q (Ok Nothing) fault is shows fails = absurd is
look_up_failed P Q (Ok (There s)) fault is shows fails = absurd is
look_up_failed P Q (Err given) fault is shows fails = subst (FailsFor (P ⊎ Q Damaged)) (sym is) (fails_by P (P ⊎ Q Damaged) (λ it. inl it) given fails)

-- a fault of an opening, for a registry that is opened again
pub reopening_fails : (P N : Type 0) (D : ℕ → Type 0) (fault : RegistryOpenFault) → OpenFailsFor P fault → IsFor N D fault → FailsFor (P ⊎ (N ⊎ ((number : ℕ) × D number))) (registry_fault fault)
reopening_fails P N D opening.Store it cause = inl it
reopening_fails P N D (opening.Damaged number) it cause = inr (inr (number, cause))
reopening_fails P N D opening.Newer it cause = inr (inl cause)
reopening_fails P N D opening.Memory it cause = tt
