-- A call of the connector that leaves the journal as it was.
use Rattle.std.proofs.Common.{◌≡◌, ◌∙◌, ℕ, OnOk, Result, Ok, Err, refl, sym, arith, inl, inr}
use Rattle.journal_core.specs.Calls.{Writes}
use Rattle.journal_core.specs.Entries.{EntryMap}
use Rattle.journal_core.specs.Stores.{CountsFault}
use Rattle.journal_core.specs.declared.journals.Journal.{Ghosts}
use Rattle.scim_key.specs.declared.stores.StoreFault.{StoreFault}
use Rattle.scim_key.specs.declared.stores.StoreFault.TheVariants.{Store, Memory}
use Rattle.connector_core.specs.Changing.{CountsChange, change_fault}
use Rattle.connector_core.specs.declared.changing.ChangeFault.{ChangeFault}

module _ {J : Type 0} (g : Ghosts J) where
  -- a fault that says nothing about the journal
  pub refused-by : {T F : Type 0} (counts : ℕ → ℕ → F → Type 0) (s : J) (later : EntryMap) (fault : F) → counts (g.faults s) (g.faults s) fault → Writes {T = T} g counts s s later (Err fault)
  refused-by counts s later fault counted = record {
    was = λ f. f;
    done = λ _. tt;
    same = λ _. refl;
    honest = λ h. h;
    stop = λ _ found is. inl is;
    counted = counted;
    written = omega arith;
    unwritten = refl;
  }

  pub refused : {T : Type 0} (s : J) (later : EntryMap) (fault : ChangeFault) → CountsChange (g.faults s) (g.faults s) fault → Writes {T = T} g CountsChange s s later (Err fault)
  refused s later fault counted = refused-by CountsChange s later fault counted

  pub unchanged : {T : Type 0} (s : J) (later : EntryMap) (said : T) → later ≡ g.entries s → Writes g CountsChange s s later (Ok said)
  unchanged s later said same = record {
    was = λ f. f;
    done = λ _. sym same;
    same = λ _. tt;
    honest = λ h. h;
    stop = λ _ found is. inl is;
    counted = refl;
    written = omega arith;
    unwritten = tt;
  }

  -- a call that makes the entries these makes them those, where both are the same as long as the store is faithful
  pub writes-these : {T F : Type 0} (counts : ℕ → ℕ → F → Type 0) (old new : J) (these those : EntryMap) (result : Result T F) → (g.is_faithful old → these ≡ those)
      → Writes g counts old new these result → Writes g counts old new those result
  writes-these {T} {F} counts old new these those result same w = record {
    was = w.was;
    done = λ f. done-on result (same (w.was f)) (w.done f);
    same = w.same;
    honest = w.honest;
    stop = λ h found may. elim (w.stop h found may) [
      | inl before ↦ inl before
      | inr after ↦ inr (after.0, after.1 ∙ same after.0)
    ];
    counted = w.counted;
    written = w.written;
    unwritten = w.unwritten;
  }
    where
      done-on : (r : Result T F) → these ≡ those → OnOk r (g.entries new ≡ these) → OnOk r (g.entries new ≡ those)
      done-on (Ok x) e is = is ∙ e
      done-on (Err fault) e is = tt

  -- what the journal put is what the call says it made
  pub put-done : {T : Type 0} (old new : J) (later : EntryMap) (said : T) → Writes g CountsFault old new later (Ok (tt {0})) → Writes g CountsChange old new later (Ok said)
  put-done old new later said w = record {
    was = w.was;
    done = w.done;
    same = w.same;
    honest = w.honest;
    stop = w.stop;
    counted = w.counted;
    written = w.written;
    unwritten = w.unwritten;
  }

  counted-so : (old new : ℕ) (fault : StoreFault) → CountsFault old new fault → CountsChange old new (change_fault fault)
  counted-so old new Store counts = counts
  counted-so old new Memory counts = counts

  -- a fault of the journal is the call's
  pub put-failed : {T : Type 0} (old new : J) (later : EntryMap) (fault : StoreFault) → Writes {T = Unit {0}} g CountsFault old new later (Err fault)
      → Writes {T = T} g CountsChange old new later (Err (change_fault fault))
  put-failed old new later fault w = record {
    was = w.was;
    done = w.done;
    same = w.same;
    honest = w.honest;
    stop = w.stop;
    counted = counted-so (g.faults old) (g.faults new) fault w.counted;
    written = w.written;
    unwritten = w.unwritten;
  }
