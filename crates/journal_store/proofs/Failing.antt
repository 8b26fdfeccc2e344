-- Why a call fails although there is memory.
use Rattle.std.proofs.Common.{◌≡◌, ◌⊎◌, Result, Ok, Err, IfErr, IsErrAnd, sym, subst, inl, inr}
use Rattle.sql_tables.specs.Faults.{FailsFor as CallFailsFor}
use Rattle.sql_tables.proofs.Failing.{fails_by as calls_by}
use Rattle.scim_key.specs.declared.stores.StoreFault.{StoreFault}
use Rattle.scim_key.specs.declared.stores.StoreFault.TheVariants as store
use Rattle.journal_store.specs.Faults.{FailsFor, HasCause, IsOfRow, table_of}
use Rattle.journal_store.specs.Opening.{IsFor, OpenFailsFor, journal_fault, table_fault}
use Rattle.journal_store.specs.declared.opening.JournalOpenFault.{JournalOpenFault}
use Rattle.journal_store.specs.declared.opening.JournalOpenFault.TheVariants as opening
use Rattle.journal_store.specs.declared.statements.TableFault.{TableFault}
use Rattle.journal_store.specs.declared.statements.TableFault.TheVariants as table

pub fails_by : (P Q : Type 0) → (P → Q) → (fault : TableFault) → FailsFor P fault → FailsFor Q fault
fails_by P Q h table.Store it = h it
fails_by P Q h table.Damaged it = tt
fails_by P Q h table.Memory it = tt

pub fails_so : (P : Type 0) → P → (fault : TableFault) → FailsFor P fault
fails_so P it table.Store = it
fails_so P it table.Damaged = tt
fails_so P it table.Memory = tt

-- a fault of a row isn't one of the store
pub row_fails : (P : Type 0) (fault : TableFault) → IsOfRow fault → FailsFor P fault
row_fails P table.Store it = absurd it
row_fails P table.Damaged it = tt
row_fails P table.Memory it = tt

-- a fault of a statement has the cause that it had there
pub fails_as : (P : Type 0) (fault : StoreFault) → CallFailsFor P fault → FailsFor P (table_of fault)
fails_as P store.Store it = it
fails_as P store.Memory it = tt

-- ---- the calls of a journal

pub calls_of : {T : Type 0} (P Q : Type 0) → (P → Q) → (r : Result T StoreFault) (fault : StoreFault) → IsErrAnd r (λ given. given ≡ fault) → CallFailsFor P fault → IfErr r (CallFailsFor Q)
calls_of P Q h (Ok x) fault is it = tt
calls_of P Q h (Err given) fault is it = subst (CallFailsFor Q) (sym is) (calls_by P Q h fault it)

-- a fault of a statement, and damage that was found
pub call_fails : (P D : Type 0) (fault : TableFault) → FailsFor P fault → HasCause D fault → CallFailsFor (P ⊎ D) (table_fault fault)
call_fails P D table.Store it damage = inl it
call_fails P D table.Damaged it damage = inr damage
call_fails P D table.Memory it damage = tt

-- a fault of an opening, for a journal that is opened again
pub reopening_fails : (P N D : Type 0) (fault : JournalOpenFault) → OpenFailsFor P fault → IsFor N D fault → CallFailsFor (P ⊎ (N ⊎ D)) (journal_fault fault)
reopening_fails P N D opening.Store it cause = inl it
reopening_fails P N D opening.Damaged it cause = inr (inr cause)
reopening_fails P N D opening.Newer it cause = inr (inl cause)
reopening_fails P N D opening.Memory it cause = tt
