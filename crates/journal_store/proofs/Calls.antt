-- Two calls one after the other.
use Rattle.std.proofs.Common.{◌≡◌, Result, Ok, Err, OnOk, OnErr, subst, ◌∙◌, inl, inr, arith}
use Rattle.sqlite_trees.specs.declared.store.Store.{Ghosts}
use Rattle.journal_core.specs.Entries.{EntryMap}
use Rattle.journal_core.specs.Stores.{CountsFault, CountsFaults}
use Rattle.scim_key.specs.declared.stores.StoreFault.{StoreFault}
use Rattle.journal_store.specs.Calls.{Reads, Writes}
use Rattle.journal_store.specs.Kept.{IsFaithful, Kept}

on_ok : {T F : Type 0} {P Q : Type 0} (r : Result T F) → (P → Q) → OnOk r P → OnOk r Q
on_ok (Ok x) f p = f p
on_ok (Err e) f p = tt

on_err : {T F : Type 0} {P Q : Type 0} (r : Result T F) → (P → Q) → OnErr r P → OnErr r Q
on_err (Ok x) f p = tt
on_err (Err e) f p = f p

-- a fault, as the result of a call that would have answered this
abbrev pub fault_as : (T : Type 0) → StoreFault → Result T StoreFault
fault_as T fault = Err fault

module _ {S : Type 0} (g : Ghosts S) where
  -- a call that only reads, after another that read and succeeded
  pub reads_on : {T U : Type 0} {old mid new : Kept S} {value : T} {result : Result U StoreFault} → Reads g old mid (Ok value) → Reads g mid new result → Reads g old new result
  reads_on {new} {result} one two = record {
    was = λ faithful. one.was (two.was faithful);
    same = λ faithful. two.same faithful ∙ one.same (two.was faithful);
    honest = λ honest. one.honest (two.honest honest);
    opened = two.opened;
    stop = λ honest found holds. one.stop (two.honest honest) found (two.stop honest found holds);
    counted = subst (λ n. CountsFaults CountsFault n new.faults result) one.counted two.counted;
    unwritten = two.unwritten ∙ one.unwritten;
  }

  -- whatever a call answered
  pub answered_so : {T U : Type 0} {old new : Kept S} {x : T} (y : U) → Reads g old new (Ok x) → Reads g old new (Ok y)
  answered_so y r = record { was = r.was; same = r.same; honest = r.honest; opened = r.opened; stop = r.stop; counted = r.counted; unwritten = r.unwritten }

  -- a call that writes, after another that read and succeeded
  pub writes_on : {T : Type 0} {old mid new : Kept S} {value : T} {later wanted : EntryMap} {result : Result (Unit {0}) StoreFault}
      → Reads g old mid (Ok value) → (IsFaithful g mid → later ≡ wanted)
      → Writes g mid new later result → Writes g old new wanted result
  writes_on {new} {result} one means two = record {
    was = λ faithful. one.was (two.was faithful);
    done = λ faithful. on_ok result (λ is. is ∙ means (two.was faithful)) (two.done faithful);
    same = λ faithful. on_err result (λ is. is ∙ one.same (two.was faithful)) (two.same faithful);
    honest = λ honest. one.honest (two.honest honest);
    stop = λ honest found holds. elim (two.stop honest found holds) [
      | inl before ↦ inl (one.stop (two.honest honest) found before)
      | inr put ↦ inr (one.was put.0, put.1 ∙ means put.0)
    ];
    counted = subst (λ n. CountsFaults CountsFault n new.faults result) one.counted two.counted;
    written = omega (arith, two.written, one.unwritten);
    unwritten = on_err result (λ is. is ∙ one.unwritten) two.unwritten;
  }

  -- a call that fails, after another that read
  pub fails_so : {T : Type 0} (U : Type 0) {old new : Kept S} {x : T} (fault : StoreFault) → Reads g old new (Ok x) → CountsFault old.faults new.faults fault → Reads g old new (fault_as U fault)
  fails_so U fault r counts = record { was = r.was; same = r.same; honest = r.honest; opened = λ _. tt; stop = r.stop; counted = counts; unwritten = r.unwritten }
