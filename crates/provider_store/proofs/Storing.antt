-- What a call that writes leaves of a registry.
use Rattle.std.proofs.Common.{◌≡◌, ◌⊎◌, ◌≤◌, ◌+◌, ◌-◌, suc, pos, List, [], ◌∷◌, ◌++◌, length, None, IsTrue, refl, sym, ap, ◌∙◌, subst, inl, inr, arith}
use Rattle.sqlite_value.specs.Order.{Row}
use Rattle.sqlite_trees.specs.declared.store.Store.{Ghosts}
use Rattle.sqlite.specs.Effect.{Database}
use Rattle.sqlite.specs.Held.{state}
use Rattle.sqlite.specs.State.{State, HasCleanDisk, Survives}
use Rattle.scim_resource.specs.Contents.{content_name}
use Rattle.scim_resource.specs.Rows.{StoredRecord, IsStored}
use Rattle.provider_core.specs.Rows.{row_named, with_row}
use Rattle.provider_core.specs.Stores.{CountsFault, HoldsNumber}
use Rattle.scim_key.specs.declared.stores.StoreFault.{StoreFault}
use Rattle.provider_core.proofs.MemoryLaws.{update-sets}
use Rattle.std.proofs.Math.ListN.{length-set}
use Rattle.provider_store.specs.Calls.{Writes}
use Rattle.provider_store.specs.Format.{resource_tree}
use Rattle.provider_store.specs.Rows.{Holds, rows_of, stored_row, shown_row, IsRowOf}
use Rattle.provider_store.specs.Connections.{IsThere, IsSpelled, Makes, Leaves, added, renewed, resources, content_text}
use Rattle.provider_store.specs.Lookups.{answered, failing}
use Rattle.provider_store.specs.Kept.{Kept, IsFaithful, IsSound, IsWhole, MayHold, kept_rows}
use Rattle.provider_store.proofs.Holding.{held_rows, held_at, joined, replaced}
use Rattle.provider_store.proofs.Reading.{rows_same, whole_still}
use Rattle.sql_tables.specs.Statements.{Keeps}

shows_stored : (s : StoredRecord) → IsStored s → IsSpelled s → IsRowOf (shown_row (stored_row s (content_text s.content))) s
shows_stored s lawful spelled = record { text = content_text s.content; shows = refl; reads = spelled; lawful = lawful }

-- the row that an update names is there
pub there_of : (table : List Row) (rows : List StoredRecord) (s : StoredRecord) → Holds table rows → HoldsNumber rows s → IsThere table s
there_of table rows s holds there =
    let at = held_at rows s there.held holds.numbered there.there in
    let it = holds.each (s.number - 1) there.held at.2 in
    let e : suc (s.number - 1) ≡ s.number = omega (arith, at.1) in
    record {
      row = it.0;
      held = there.held;
      only = subst (λ n. Rattle.std.specs.Prelude.filter (Rattle.sqlite_trees.specs.Tree.has_rowid (pos n)) table ≡ it.0 ∷ []) e it.1;
      shows = it.2;
      named = there.name;
    }

module _ {S : Type 0} (g : Ghosts S) where
  abbrev at : Kept S → State
  at k = state g k.conn

  -- the connection made the table these rows, which hold these records
  pub made_whole : (old new : Kept S) (s : StoredRecord) (table : List Row) (rows : List StoredRecord) → Makes (at old) (at new) s table → Holds table rows → new.count ≡ length rows
      → IsWhole g new × (kept_rows g new ≡ rows)
  made_whole old new s table rows makes holds count =
      let here : Holds (resources (at new)) rows = subst (λ t. Holds t rows) (sym makes.rows) holds in
      let is : kept_rows g new ≡ rows = ap (λ (d : Database). rows_of (d.trees resource_tree)) makes.laid.committed ∙ held_rows (resources (at new)) rows here in
      (record { laid = makes.laid; holds = subst (Holds (resources (at new))) (sym is) here; counted = count ∙ sym (ap length is) }, is)

  pub insert_holds : (old : Kept S) (s : StoredRecord) → IsWhole g old → IsStored s → IsSpelled s → s.number ≡ length (kept_rows g old) + 1 → row_named (content_name s.content) (kept_rows g old) ≡ None
      → Holds (added s (resources (at old))) (kept_rows g old ++ s ∷ [])
  insert_holds old s whole lawful spelled next none =
      joined (resources (at old)) (kept_rows g old) s (stored_row s (content_text s.content)) whole.holds refl (shows_stored s lawful spelled) next none

  pub update_holds : (old : Kept S) (s : StoredRecord) → IsWhole g old → IsStored s → IsSpelled s → HoldsNumber (kept_rows g old) s → Holds (renewed s (resources (at old))) (with_row s (kept_rows g old))
  update_holds old s whole lawful spelled there =
      replaced (resources (at old)) (kept_rows g old) s (stored_row s (content_text s.content)) whole.holds refl (shows_stored s lawful spelled) there

  pub length_with : (old : Kept S) (s : StoredRecord) → IsWhole g old → HoldsNumber (kept_rows g old) s → length (with_row s (kept_rows g old)) ≡ length (kept_rows g old)
  length_with old s whole there =
      sym (ap length (update-sets (kept_rows g old) s whole.holds.numbered there)) ∙ length-set (kept_rows g old) (s.number - 1) s

  module _ (old new : Kept S) (s : StoredRecord) (table : List Row) (rows : List StoredRecord) (sound : IsSound g old) (was_usable : IsTrue old.is_usable) (usable : new.is_usable ≡ old.is_usable)
      (holds : IsFaithful g old → IsStored s → IsSpelled s → Holds table rows) (survives : Survives (at old) (at new) (λ db. IsTrue (at old).is_open × Leaves s table db)) where
    faithful_before : HasCleanDisk (at new) → IsTrue (at old).is_open → IsFaithful g old
    faithful_before clean still =
        let early : HasCleanDisk (at old) = omega (arith, clean, survives.clean) in
        record { clean = early; is_open = still; usable = was_usable; whole = sound early still was_usable }

    stops : (found : List StoredRecord) → HasCleanDisk (at new) → MayHold g new found → MayHold g old found ⊎ (IsFaithful g old × (found ≡ rows))
    stops found clean may = elim (survives.crash clean may.0 may.1) [
      | inl was ↦ inl (may.0, was, may.2)
      | inr left ↦
          let before = faithful_before clean left.0 in
          inr (before, may.2 ∙ ap rows_of left.1.rows ∙ held_rows table rows (holds before left.1.lawful left.1.spelled))
    ]

    pub wrote : (HasCleanDisk (at new) → Makes (at old) (at new) s table) → (IsFaithful g old → new.count ≡ length rows) → new.faults ≡ old.faults → new.writes ≤ old.writes + 1
        → Writes g old new rows answered
    wrote makes count faults writes = record {
      was = λ it. faithful_before it.clean (makes it.clean).was_open;
      done = λ it. let made = makes it.clean in let before = faithful_before it.clean made.was_open in
          (made_whole old new s table rows made (holds before made.lawful made.spelled) (count before)).1;
      same = λ _. tt;
      honest = λ clean. omega (arith, clean, survives.clean);
      stop = λ clean found may. stops found clean may;
      counted = faults;
      written = writes;
      unwritten = tt;
    }

    pub wrote_faithful : (HasCleanDisk (at new) → Makes (at old) (at new) s table) → (IsFaithful g old → new.count ≡ length rows) → HasCleanDisk (at new) → IsFaithful g new
    wrote_faithful makes count clean =
        let made = makes clean in
        let before = faithful_before clean made.was_open in
        record { clean = clean; is_open = made.is_open; usable = subst IsTrue (sym usable) was_usable; whole = (made_whole old new s table rows made (holds before made.lawful made.spelled) (count before)).0 }

    pub wrote_sound : (HasCleanDisk (at new) → Makes (at old) (at new) s table) → (IsFaithful g old → new.count ≡ length rows) → IsSound g new
    wrote_sound makes count clean still use_it = (wrote_faithful makes count clean).whole

    pub failed_sound : (HasCleanDisk (at new) → Keeps (at old) (at new)) → new.count ≡ old.count → IsSound g new
    failed_sound keeps count clean still use_it =
        let kept = keeps clean in
        whole_still g old new usable count kept (faithful_before clean (kept.was_open still)).whole still

    pub failed : (fault : StoreFault) → (HasCleanDisk (at new) → Keeps (at old) (at new)) → new.count ≡ old.count → CountsFault old.faults new.faults fault → new.writes ≡ old.writes
        → Writes g old new rows (failing {T = Unit {0}} fault)
    failed fault keeps count faults writes = record {
      was = λ it. faithful_before it.clean ((keeps it.clean).was_open it.is_open);
      done = λ _. tt;
      same = λ it. let kept = keeps it.clean in rows_same g old new usable count kept (faithful_before it.clean (kept.was_open it.is_open)).whole.laid it.is_open;
      honest = λ clean. omega (arith, clean, survives.clean);
      stop = λ clean found may. stops found clean may;
      counted = faults;
      written = omega (arith, writes);
      unwritten = writes;
    }
