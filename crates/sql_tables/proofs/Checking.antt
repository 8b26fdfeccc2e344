-- Calls that check the tables, one after another.
use Rattle.std.proofs.Common.{Result, Ok, Err, OnOk, IfErr, IsErrAnd, IsTrue, arith}
use Rattle.sqlite.specs.State.{State, HasCleanDisk}
use Rattle.sql_tables.specs.Faults.{HasFailed}
use Rattle.sql_tables.specs.Statements.{Checks, Looks}
use Rattle.sql_tables.proofs.Failing.{failed_since}
use Rattle.sql_tables.proofs.Looking.{looks_then}
use Rattle.sql_tables.proofs.Results.{if_err, on_ok_of}

no_ok : {T F : Type 0} (P : F → Type 0) (Q : Type 0) (r : Result T F) → IsErrAnd r P → OnOk r Q
no_ok P Q (Ok x) is = absurd is
no_ok P Q (Err e) is = tt

abbrev as_fault : (T : Type 0) {F : Type 0} → F → Result T F
as_fault T fault = Err fault

abbrev as_value : {T : Type 0} (F : Type 0) → T → Result T F
as_value F value = Ok value

module _ {F : Type 0} {FailsFor : (failure : Type 0) → F → Type 0} where
  -- a check after a call that only looks; a fault that has one cause has any that follows from it
  pub checks_since : {T : Type 0} (old mid new : State) (result : Result T F)
      → ((P Q : Type 0) → (P → Q) → (fault : F) → FailsFor P fault → FailsFor Q fault)
      → Looks old mid → Checks FailsFor mid new result → Checks FailsFor old new result
  checks_since old mid new result by first second = record {
    failed = λ clean.
        let mid_clean : HasCleanDisk mid = omega (arith, clean, second.looks.quiet.clean) in
        let since = failed_since old mid new first.quiet mid_clean second.looks.quiet.counts in
        if_err result (by (HasFailed mid new) (HasFailed old new) since) (second.failed clean);
    is_open = second.is_open;
    looks = looks_then old mid new first second.looks;
  }

  module _ {G : Type 0} {GivenFailsFor : (failure : Type 0) → G → Type 0} where
    -- a fault that is handed on
    pub checks_err : {T U : Type 0} (P : F → Type 0) (old new : State) (fault : G) (result : Result U F) → IsErrAnd result P
        → (GivenFailsFor (HasFailed old new) fault → IfErr result (FailsFor (HasFailed old new)))
        → Checks GivenFailsFor old new (as_fault T fault) → Checks FailsFor old new result
    checks_err P old new fault result is fails given = record { failed = λ clean. fails (given.failed clean); is_open = λ _. no_ok P (IsTrue new.is_open) result is; looks = given.looks }

    -- a check of what a call gave
    pub checks_by : {T U : Type 0} (old new : State) (given : T) (result : Result U F) → IfErr result (FailsFor (HasFailed old new))
        → Checks GivenFailsFor old new (as_value G given) → Checks FailsFor old new result
    checks_by old new given result fails checks = record { failed = λ _. fails; is_open = λ clean. on_ok_of result (checks.is_open clean); looks = checks.looks }

    pub checks_fail : {T U : Type 0} (old new : State) (fault : G) (told : F) → (GivenFailsFor (HasFailed old new) fault → FailsFor (HasFailed old new) told)
        → Checks GivenFailsFor old new (as_fault T fault) → Checks FailsFor old new (as_fault U told)
    checks_fail old new fault told fails given = record { failed = λ clean. fails (given.failed clean); is_open = λ _. tt; looks = given.looks }
