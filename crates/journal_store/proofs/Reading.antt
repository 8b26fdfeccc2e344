-- What a call that only reads leaves of a journal.
use Rattle.std.proofs.Common.{◌≡◌, ◌≤◌, ◌+◌, Result, Ok, Err, IsTrue, OnErr, OnOk, sym, ap, ◌∙◌, subst, inl, inr, arith, ◌⊎◌}
use Rattle.sqlite_trees.specs.declared.store.Store.{Ghosts}
use Rattle.sqlite_trees.specs.Tree.{Trees}
use Rattle.sqlite.specs.Effect.{Database}
use Rattle.sqlite.specs.Held.{state}
use Rattle.sqlite.specs.State.{State, HasCleanDisk, Survives}
use Rattle.journal_core.specs.Entries.{EntryMap}
use Rattle.journal_core.specs.Stores.{CountsFault, CountsFaults}
use Rattle.scim_key.specs.declared.stores.StoreFault.{StoreFault}
use Rattle.journal_store.specs.Calls.{Reads, Writes, call_result}
use Rattle.journal_store.specs.declared.statements.TableFault.{TableFault}
use Rattle.journal_store.specs.Rows.{entries_in}
use Rattle.sql_tables.specs.Statements.{Keeps}
use Rattle.sql_tables.proofs.Keeping.{kept_now, laid_still}
use Rattle.journal_store.specs.Connections.{Commits, HasNumbers, IsLaid}
use Rattle.journal_store.specs.Kept.{Kept, IsFaithful, IsSound, IsWhole, MayHold, kept_entries}

abbrev pub answered : Result (Unit {0}) StoreFault
answered = Ok tt

abbrev pub failing : StoreFault → Result (Unit {0}) StoreFault
failing fault = Err fault

module _ {S : Type 0} (g : Ghosts S) where
  abbrev at : Kept S → State
  at k = state g k.conn

  -- a connection that is kept keeps the entries
  module _ (old new : Kept S) (usable : new.is_usable ≡ old.is_usable) (keeps : Keeps (at old) (at new)) where
    pub entries_same : IsLaid (at old) → IsTrue (at new).is_open → kept_entries g new ≡ kept_entries g old
    entries_same laid still = let same = kept_now (at old) (at new) keeps still laid in ap (λ (d : Database). entries_in d.trees) (same.1 ∙ same.0 ∙ sym laid.committed)

    pub whole_still : IsWhole g old → IsTrue (at new).is_open → IsWhole g new
    whole_still whole still =
        let same = kept_now (at old) (at new) keeps still whole.laid in
        record { laid = laid_still (at old) (at new) keeps still whole.laid; numbers = subst (λ (d : Database). HasNumbers d.trees) (sym same.0) whole.numbers }

  pub sound_still : (old new : Kept S) → new.is_usable ≡ old.is_usable → Survives (at old) (at new) (λ _. ⊥) → (HasCleanDisk (at new) → Keeps (at old) (at new)) → IsSound g old → IsSound g new
  sound_still old new usable quiet keeps sound clean still use_it =
      let was = keeps clean in
      whole_still old new usable was (sound (omega (arith, clean, quiet.clean)) (was.was_open still) (subst IsTrue usable use_it)) still

  pub faithful_was : (old new : Kept S) → new.is_usable ≡ old.is_usable → Survives (at old) (at new) (λ _. ⊥) → (HasCleanDisk (at new) → Keeps (at old) (at new)) → IsSound g old → IsFaithful g new → IsFaithful g old
  faithful_was old new usable quiet keeps sound it =
      let clean : HasCleanDisk (at old) = omega (arith, it.clean, quiet.clean) in
      let was_open = (keeps it.clean).was_open it.is_open in
      let was_usable = subst IsTrue usable it.usable in
      record { clean = clean; is_open = was_open; usable = was_usable; whole = sound clean was_open was_usable }

  if_ok : {T F : Type 0} {P Q : Type 0} (r : Result T F) → (P → Q) → OnOk r P → OnOk r Q
  if_ok (Ok x) f p = f p
  if_ok (Err e) f p = tt

  pub read_only : {T : Type 0} (old new : Kept S) (result : Result T StoreFault) → IsTrue old.is_usable → new.is_usable ≡ old.is_usable → new.writes ≡ old.writes
      → Survives (at old) (at new) (λ _. ⊥) → (HasCleanDisk (at new) → Keeps (at old) (at new)) → (HasCleanDisk (at new) → OnOk result (IsTrue (at new).is_open)) → IsSound g old
      → CountsFaults CountsFault old.faults new.faults result
      → Reads g old new result
  read_only old new result was_usable usable writes quiet keeps opens sound counts = record {
    was = faithful_was old new usable quiet keeps sound;
    same = λ it. entries_same old new usable (keeps it.clean) (faithful_was old new usable quiet keeps sound it).whole.laid it.is_open;
    honest = λ clean. omega (arith, clean, quiet.clean);
    opened = λ clean. if_ok result (λ still.
        let use_it = subst IsTrue (sym usable) was_usable in
        record { clean = clean; is_open = still; usable = use_it; whole = sound_still old new usable quiet keeps sound clean still use_it }) (opens clean);
    stop = λ clean found may. elim (quiet.crash clean may.0 may.1) [ inl was ↦ (may.0, was, may.2) | inr none ↦ absurd none ];
    counted = counts;
    unwritten = writes;
  }

  -- ---- a call that writes

  -- the changes lead to these entries in the tables, if the journal is faithful
  module _ (old new : Kept S) (later : EntryMap) (Changes : Trees → Trees → Type 0) (sound : IsSound g old) (was_usable : IsTrue old.is_usable) (usable : new.is_usable ≡ old.is_usable)
      (means : IsFaithful g old → (db : Trees) → Changes (at old).now.trees db → HasNumbers db × (entries_in db ≡ later))
      (survives : Survives (at old) (at new) (λ db. IsTrue (at old).is_open × Changes (at old).now.trees db)) where
    faithful_before : HasCleanDisk (at new) → IsTrue (at old).is_open → IsFaithful g old
    faithful_before clean still =
        let early : HasCleanDisk (at old) = omega (arith, clean, survives.clean) in
        record { clean = early; is_open = still; usable = was_usable; whole = sound early still was_usable }

    stops : (found : EntryMap) → HasCleanDisk (at new) → MayHold g new found → MayHold g old found ⊎ (IsFaithful g old × (found ≡ later))
    stops found clean may = elim (survives.crash clean may.0 may.1) [
      | inl was ↦ inl (may.0, was, may.2)
      | inr left ↦ let before = faithful_before clean left.0 in inr (before, may.2 ∙ (means before may.0 left.1).1)
    ]

    wrote_faithful : (HasCleanDisk (at new) → Commits Changes (at old) (at new)) → HasCleanDisk (at new) → IsFaithful g new
    wrote_faithful makes clean =
        let made = makes clean in
        record {
          clean = clean;
          is_open = made.is_open;
          usable = subst IsTrue (sym usable) was_usable;
          whole = record { laid = made.laid; numbers = (means (faithful_before clean made.was_open) (at new).now.trees made.puts).0 };
        }

    -- whatever the statements answered
    pub writes_sound : {T : Type 0} (made : Result T TableFault) → (HasCleanDisk (at new) → OnOk made (Commits Changes (at old) (at new))) → (HasCleanDisk (at new) → OnErr made (Keeps (at old) (at new))) → IsSound g new
    writes_sound (Ok x) makes keeps clean still use_it = (wrote_faithful makes clean).whole
    writes_sound (Err fault) makes keeps clean still use_it =
        let kept = keeps clean in
        whole_still old new usable kept (faithful_before clean (kept.was_open still)).whole still

    pub writes_open : {T : Type 0} (made : Result T TableFault) → (HasCleanDisk (at new) → OnOk made (Commits Changes (at old) (at new))) → (result : Result T StoreFault) → result ≡ call_result made
        → HasCleanDisk (at new) → OnOk result (IsFaithful g new)
    writes_open (Ok x) makes result is clean = subst (λ r. OnOk r (IsFaithful g new)) (sym is) (wrote_faithful makes clean)
    writes_open (Err fault) makes result is clean = subst (λ r. OnOk r (IsFaithful g new)) (sym is) tt

    module _ {T : Type 0} (result : Result T StoreFault) (counts : CountsFaults CountsFault old.faults new.faults result) (written : new.writes ≤ old.writes + 1) (unwritten : OnErr result (new.writes ≡ old.writes)) where
      pub writes : (made : Result T TableFault) → (HasCleanDisk (at new) → OnOk made (Commits Changes (at old) (at new))) → (HasCleanDisk (at new) → OnErr made (Keeps (at old) (at new))) → result ≡ call_result made
          → Writes g old new later result
      writes (Ok x) makes keeps is = record {
        was = λ it. faithful_before it.clean (makes it.clean).was_open;
        done = λ it. let made = makes it.clean in
            subst (λ r. OnOk r (kept_entries g new ≡ later)) (sym is) (ap (λ (d : Database). entries_in d.trees) made.laid.committed ∙ (means (faithful_before it.clean made.was_open) (at new).now.trees made.puts).1);
        same = λ _. subst (λ r. OnErr r (kept_entries g new ≡ kept_entries g old)) (sym is) tt;
        honest = λ clean. omega (arith, clean, survives.clean);
        stop = λ clean found may. stops found clean may;
        counted = counts;
        written = written;
        unwritten = unwritten;
      }
      writes (Err fault) makes keeps is = record {
        was = λ it. faithful_before it.clean ((keeps it.clean).was_open it.is_open);
        done = λ _. subst (λ r. OnOk r (kept_entries g new ≡ later)) (sym is) tt;
        same = λ it. let kept = keeps it.clean in
            subst (λ r. OnErr r (kept_entries g new ≡ kept_entries g old)) (sym is) (entries_same old new usable kept (faithful_before it.clean (kept.was_open it.is_open)).whole.laid it.is_open);
        honest = λ clean. omega (arith, clean, survives.clean);
        stop = λ clean found may. stops found clean may;
        counted = counts;
        written = written;
        unwritten = unwritten;
      }
