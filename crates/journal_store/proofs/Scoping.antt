-- What a reset of some records makes of the tables.
use Rattle.std.proofs.Common.{◌≡◌, ◌<◌, ◌≤◌, ◌+◌, ◌++◌, ℕ, Bool, true, false, List, [], ◌∷◌, Option, Some, None, Ok, Err, Result, IfOk, OnOk, IsTrue, arith, drop, get_or, length, refl, sym, ap, ◌∙◌, subst, inl, take}
use Rattle.std.proofs.lemmas.List.{drop_more, take-append-drop, take_more}
use Rattle.std.specs.Prelude.{if◌then◌else◌, is_none}
use Rattle.std.specs.FinMap.{get, insert}
use Rattle.sqlite_trees.specs.Tree.{Trees}
use Rattle.sqlite_trees.specs.declared.store.Store.{Ghosts}
use Rattle.sqlite.proofs.Callers.{unchanged_then}
use Rattle.sqlite.proofs.StateLemmas.{survives_then}
use Rattle.sqlite.specs.Effect.{Database}
use Rattle.sqlite.specs.Held.{state}
use Rattle.sqlite.specs.State.{State, HasCleanDisk, IsUnchanged, Survives}
use Rattle.scim_key.specs.declared.records.RecordName.{RecordName}
use Rattle.scim_key.specs.declared.stores.StoreFault.{StoreFault}
use Rattle.source_csv.specs.Records.{row_name}
use Rattle.journal_core.specs.Entries.{EntryMap}
use Rattle.journal_core.specs.Forgetting.{is_learnt, unlearnt}
use Rattle.journal_core.specs.declared.entries.Entry.{Entry}
use Rattle.sql_tables.specs.Statements.{LeavesStore}
use Rattle.sql_tables.proofs.Leaving.{leaves_then, unchanged_leaves}
use Rattle.journal_store.specs.Batches.{IsUnderWay, settled}
use Rattle.journal_store.specs.Calls.{call_result}
use Rattle.journal_store.specs.Connections.{Finds, HasNumbers, IsThere, Makes, PutsIn}
use Rattle.journal_store.specs.Kept.{IsFaithful, Kept, kept_entries}
use Rattle.journal_store.specs.Rows.{entries_in, entry_in, row_of}
use Rattle.journal_store.specs.Scopes.{ResetsEach, ResetsRecord, ResetsThese, absent_from, answer_of, changed_or_absent, first_absent, forgotten_of, learnt_count_of, learnt_number, reset_of, unless_absent, unlearnt_at}
use Rattle.journal_store.specs.declared.scopes.ResetResult.{ResetResult}
use Rattle.journal_store.specs.declared.scopes.ResetResult.TheVariants.{Absent, Changed}
use Rattle.journal_store.specs.declared.statements.TableFault.{TableFault}
use Rattle.journal_store.proofs.Batching.{under_way_still}
use Rattle.journal_store.proofs.Changing.{spelled}
use Rattle.journal_store.proofs.Putting.{entry_put, found_entry, found_none, found_some, numbers_still, there_of}

pub both_ok : {T F : Type 0} {P R : T → Type 0} {Q : Type 0} (r : Result T F) → ((x : T) → P x → Q → R x) → IfOk r P → OnOk r Q → IfOk r R
both_ok (Ok x) f p q = f x p q
both_ok (Err e) f p q = tt

-- ---- one record

-- a record that is looked up, and then put again without what was learnt
module _ (old mid : State) (name : RecordName) (entry : Entry) (finds : Finds old.now.trees name (Some entry)) (same : IsUnchanged old mid) (numbers : HasNumbers old.now.trees) where
  its_name : row_name entry.row ≡ name
  its_name = (found_some old.now.trees name entry finds).1

  pub unlearn_there : IsThere mid.now.trees (row_name entry.row)
  unlearn_there =
      subst (λ (d : Database). IsThere d.trees (row_name entry.row)) (sym same.0.now_is)
      (subst (IsThere old.now.trees) (sym its_name) (there_of old.now.trees name entry numbers finds))

  pub resets_record : (new : State) (changes : Bool) → changes ≡ is_learnt entry → Makes true (unlearnt entry) (settled mid) (settled new) → ResetsRecord name changes old.now.trees new.now.trees
  resets_record new changes is made =
      let puts : PutsIn true (unlearnt entry) old.now.trees new.now.trees = subst (λ (d : Database). PutsIn true (unlearnt entry) d.trees new.now.trees) same.0.now_is made.puts in
      let found : Finds old.now.trees (row_name entry.row) (Some entry) = subst (λ n. Finds old.now.trees n (Some entry)) (sym its_name) finds in
      let back : entry_in (row_name entry.row).kind (row_of (unlearnt entry)) ≡ Some (unlearnt entry) = spelled entry.row None (λ e none. absurd (cc)) puts.lawful in
      record {
        entry = entry;
        there = found_entry old.now.trees name (Some entry) finds;
        changes_is = is;
        numbers = numbers_still (Some entry) (unlearnt entry) old.now.trees new.now.trees numbers found puts back;
        entries = entry_put (Some entry) (unlearnt entry) old.now.trees new.now.trees numbers found puts back ∙ ap (λ n. insert (entries_in old.now.trees) n (unlearnt entry)) its_name;
      }

-- ---- names one after another

pub absent_past : (m : EntryMap) (front back : List RecordName) → first_absent m front ≡ None → first_absent m (front ++ back) ≡ first_absent m back
absent_past m [] back none = refl
absent_past m (name ∷ front) back none = go (get m name) (absent_past m front back) none
  where
    go : (held : Option Entry) → (first_absent m front ≡ None → first_absent m (front ++ back) ≡ first_absent m back) → absent_from name (first_absent m front) held ≡ None
        → absent_from name (first_absent m (front ++ back)) held ≡ first_absent m back
    go None later none = absurd (cc)
    go (Some entry) later none = later none

pub forgotten_next : (m : EntryMap) (front back : List RecordName) → forgotten_of m (front ++ back) ≡ forgotten_of (forgotten_of m front) back
forgotten_next m [] back = refl
forgotten_next m (name ∷ front) back = forgotten_next (unlearnt_at m name (get m name)) front back

pub count_next : (m : EntryMap) (front back : List RecordName) → learnt_count_of m (front ++ back) ≡ learnt_count_of m front + learnt_count_of (forgotten_of m front) back
count_next m [] back = omega arith
count_next m (name ∷ front) back =
    let later = count_next (unlearnt_at m name (get m name)) front back in
    omega (arith, later)

-- the names up to one, that one, and the rest
parts : (names : List RecordName) (at : ℕ) (name : RecordName) → at < length names → name ≡ get_or names at name → names ≡ take at names ++ name ∷ drop (at + 1) names
parts names at name within is =
    sym (take-append-drop at names) ∙ ap (λ l. take at names ++ l) (drop_more names at name within ∙ ap (λ n. n ∷ drop (at + 1) names) (sym is))

more : (names : List RecordName) (at : ℕ) (name : RecordName) → at < length names → name ≡ get_or names at name → take (at + 1) names ≡ take at names ++ name ∷ []
more names at name within is = take_more names at name within ∙ ap (λ n. take at names ++ n ∷ []) (sym is)

-- ---- the first that is absent

-- within a list of names, in a transaction that began with this state
pub record ThereSoFar (names : List RecordName) (at : ℕ) (old now : State) : Type 0 where
  pub under_way : IsUnderWay now
  pub left : HasCleanDisk now → LeavesStore old now
  pub quiet : Survives old now (λ _. ⊥)
  pub same : HasCleanDisk now → IsUnchanged old now
  pub there : HasCleanDisk now → first_absent (entries_in old.now.trees) (take at names) ≡ None

pub there_none : (names : List RecordName) (old now : State) → IsUnderWay old → (HasCleanDisk now → IsUnchanged old now) → (HasCleanDisk now → LeavesStore old now) → Survives old now (λ _. ⊥) → ThereSoFar names 0 old now
there_none names old now under_way same left quiet = record {
  under_way = under_way_still old now under_way quiet same;
  left = left;
  quiet = quiet;
  same = same;
  there = λ _. refl;
}

module _ (names : List RecordName) (at : ℕ) (name : RecordName) (old mid new : State) (within : at < length names) (is : name ≡ get_or names at name) (so_far : ThereSoFar names at old mid)
    (left : HasCleanDisk new → LeavesStore mid new) (quiet : Survives mid new (λ _. ⊥)) where
  before : HasCleanDisk new → HasCleanDisk mid
  before clean = omega (arith, clean, quiet.clean)

  pub still_left : HasCleanDisk new → LeavesStore old new
  still_left clean = leaves_then old mid new (so_far.left (before clean)) (left clean)

  pub still_quiet : Survives old new (λ _. ⊥)
  still_quiet = survives_then old mid new _ _ (λ _. ⊥) (λ _ db it. it) (λ _ db it. it) so_far.quiet quiet

  module _ (same : HasCleanDisk new → IsUnchanged mid new) where
    pub still_same : HasCleanDisk new → IsUnchanged old new
    still_same clean = unchanged_then old mid new (so_far.same (before clean)) (same clean)

    held_at : (held : Option Entry) → (HasCleanDisk new → Finds mid.now.trees name held) → HasCleanDisk new → get (entries_in old.now.trees) name ≡ held
    held_at held finds clean =
        found_entry old.now.trees name held (subst (λ (d : Database). Finds d.trees name held) (so_far.same (before clean)).0.now_is (finds clean))

    pub there_next : (entry : Entry) → (HasCleanDisk new → Finds mid.now.trees name (Some entry)) → ThereSoFar names (at + 1) old new
    there_next entry finds = record {
      under_way = under_way_still mid new so_far.under_way quiet same;
      left = still_left;
      quiet = still_quiet;
      same = still_same;
      there = λ clean.
          ap (first_absent (entries_in old.now.trees)) (more names at name within is)
          ∙ absent_past (entries_in old.now.trees) (take at names) (name ∷ []) (so_far.there (before clean))
          ∙ ap (absent_from name None) (held_at (Some entry) finds clean);
    }

    pub there_or : (held : Option Entry) → is_none held ≡ false → (HasCleanDisk new → Finds mid.now.trees name held) → ThereSoFar names (at + 1) old new
    there_or None some finds = absurd (cc)
    there_or (Some entry) some finds = there_next entry finds

    absent_here : (HasCleanDisk new → Finds mid.now.trees name None) → HasCleanDisk new → first_absent (entries_in old.now.trees) names ≡ Some name
    absent_here finds clean =
        ap (first_absent (entries_in old.now.trees)) (parts names at name within is)
        ∙ absent_past (entries_in old.now.trees) (take at names) (name ∷ drop (at + 1) names) (so_far.there (before clean))
        ∙ ap (absent_from name (first_absent (entries_in old.now.trees) (drop (at + 1) names))) (held_at None finds clean)

    pub absent_or : (held : Option Entry) → is_none held ≡ true → (HasCleanDisk new → Finds mid.now.trees name held) → HasCleanDisk new → first_absent (entries_in old.now.trees) names ≡ Some name
    absent_or None none finds clean = absent_here finds clean
    absent_or (Some entry) none finds clean = absurd (cc)

-- ---- the records, one after another

-- the same once each record up to here is reset, and this many of them changed
pub record ResetSoFar (names : List RecordName) (at count : ℕ) (old now : State) : Type 0 where
  pub under_way : IsUnderWay now
  pub left : HasCleanDisk now → LeavesStore old now
  pub quiet : Survives old now (λ _. ⊥)
  pub is_open : HasCleanDisk now → IsTrue now.is_open
  pub few : count ≤ at
  pub numbers : HasCleanDisk now → HasNumbers now.now.trees
  pub resets : HasCleanDisk now → ResetsEach (take at names) count old.now.trees now.now.trees

-- what the reset of a record makes of the count
abbrev pub counted : Bool → ℕ → ℕ
counted true count = count + 1
counted false count = count

number_of : (changes : Bool) (count : ℕ) → counted changes count ≡ count + (if changes then 1 else 0)
number_of true count = omega arith
number_of false count = omega arith

counted_few : (changes : Bool) (count at : ℕ) → count ≤ at → counted changes count ≤ at + 1
counted_few true count at few = omega (arith, few)
counted_few false count at few = omega (arith, few)

pub resets_next : (names : List RecordName) (name : RecordName) (count : ℕ) (changes : Bool) (old mid new : Trees) → ResetsEach names count old mid → ResetsRecord name changes mid new → ResetsEach (names ++ name ∷ []) (counted changes count) old new
resets_next names name count changes old mid new so_far it =
    let m = entries_in old in
    let there : get (forgotten_of m names) name ≡ Some it.entry = ap (λ (l : EntryMap). get l name) (sym so_far.entries) ∙ it.there in
    let number : learnt_count_of m (names ++ name ∷ []) ≡ learnt_count_of m names + (learnt_number (Some it.entry) + 0) =
    count_next m names (name ∷ []) ∙ ap (λ (held : Option Entry). learnt_count_of m names + (learnt_number held + 0)) there in
    let here : counted changes count ≡ count + (if is_learnt it.entry then 1 else 0) = number_of changes count ∙ ap (λ (b : Bool). count + (if b then 1 else 0)) it.changes_is in
    record {
      count_is = omega (arith, number, here, so_far.count_is);
      numbers = it.numbers;
      entries = it.entries ∙ ap (λ (l : EntryMap). insert l name (unlearnt it.entry)) so_far.entries
          ∙ sym (forgotten_next m names (name ∷ []) ∙ ap (unlearnt_at (forgotten_of m names) name) there);
    }

survives_same : (s : State) → Survives s s (λ _. ⊥)
survives_same s = record {
  clean = omega arith;
  shield = λ it. it;
  counts = omega arith;
  limit = refl;
  closes = λ _ still. inl still;
  crash = λ _ db may. inl may;
}

pub reset_none : (names : List RecordName) (now : State) → IsUnderWay now → (HasCleanDisk now → IsTrue now.is_open) → (HasCleanDisk now → IsTrue now.is_open → HasNumbers now.now.trees) → ResetSoFar names 0 0 now now
reset_none names now under_way opens numbers = record {
  under_way = under_way;
  left = λ _. record { was_open = λ still. still; committed = λ _. refl };
  quiet = survives_same now;
  is_open = opens;
  few = omega arith;
  numbers = λ clean. numbers clean (opens clean);
  resets = λ clean. record { count_is = refl; numbers = numbers clean (opens clean); entries = refl };
}

pub reset_next : (names : List RecordName) (at count : ℕ) (name : RecordName) (changes : Bool) (old mid new : State) → at < length names → name ≡ get_or names at name → ResetSoFar names at count old mid → IsUnderWay new
    → (HasCleanDisk new → LeavesStore mid new) → Survives mid new (λ _. ⊥) → (HasCleanDisk new → IsTrue new.is_open) → (HasCleanDisk new → ResetsRecord name changes mid.now.trees new.now.trees) → ResetSoFar names (at + 1) (counted changes count) old new
reset_next names at count name changes old mid new within is so_far under_way left quiet opens resets = record {
  under_way = under_way;
  left = λ clean. leaves_then old mid new (so_far.left (earlier clean)) (left clean);
  quiet = survives_then old mid new _ _ (λ _. ⊥) (λ _ db it. it) (λ _ db it. it) so_far.quiet quiet;
  is_open = opens;
  few = counted_few changes count at so_far.few;
  numbers = λ clean. (resets clean).numbers;
  resets = λ clean.
      subst (λ l. ResetsEach l (counted changes count) old.now.trees new.now.trees) (sym (more names at name within is))
      (resets_next (take at names) name count changes old.now.trees mid.now.trees new.now.trees (so_far.resets (earlier clean)) (resets clean));
}
  where
    earlier : HasCleanDisk new → HasCleanDisk mid
    earlier clean = omega (arith, clean, quiet.clean)

-- ---- the transaction

module _ (names : List RecordName) (old mid : State) (same : IsUnchanged old mid) where
  -- a record is absent, so nothing changed
  pub absent_resets : (name : RecordName) → HasNumbers old.now.trees → first_absent (entries_in old.now.trees) names ≡ Some name → ResetsThese names old.now.trees mid.now.trees
  absent_resets name numbers absent = record {
    numbers = subst (λ (d : Database). HasNumbers d.trees) (sym same.0.now_is) numbers;
    entries = ap (λ (d : Database). entries_in d.trees) same.0.now_is
        ∙ ap (λ (a : Option RecordName). unless_absent a (entries_in old.now.trees) (forgotten_of (entries_in old.now.trees) names)) (sym absent);
  }

  pub absent_answers : (name : RecordName) → first_absent (entries_in old.now.trees) names ≡ Some name → Absent name ≡ answer_of (entries_in old.now.trees) names
  absent_answers name absent = ap (changed_or_absent (learnt_count_of (entries_in old.now.trees) names)) (sym absent)

  -- each is there, and is reset
  module _ (count : ℕ) (new : Trees) (there : first_absent (entries_in old.now.trees) names ≡ None) (resets : ResetsEach names count mid.now.trees new) where
    entries_same : entries_in mid.now.trees ≡ entries_in old.now.trees
    entries_same = ap (λ (d : Database). entries_in d.trees) same.0.now_is

    pub each_resets : ResetsThese names old.now.trees new
    each_resets = record {
      numbers = resets.numbers;
      entries = resets.entries ∙ ap (λ (m : EntryMap). forgotten_of m names) entries_same
          ∙ ap (λ (a : Option RecordName). unless_absent a (entries_in old.now.trees) (forgotten_of (entries_in old.now.trees) names)) (sym there);
    }

    pub each_answers : Changed count ≡ answer_of (entries_in old.now.trees) names
    each_answers =
        ap Changed (resets.count_is ∙ ap (λ (m : EntryMap). learnt_count_of m names) entries_same)
        ∙ ap (changed_or_absent (learnt_count_of (entries_in old.now.trees) names)) (sym there)

-- ---- the journal

-- the answer is that of the entries before
abbrev pub Answers : {S : Type 0} → Ghosts S → (old new : Kept S) → List RecordName → Result ResetResult StoreFault → Type 0
Answers g old new names result = IsFaithful g new → IfOk result (λ answer. answer ≡ answer_of (kept_entries g old) names)

module _ {S : Type 0} (g : Ghosts S) (old : Kept S) (names : List RecordName) where
  pub these_mean : IsFaithful g old → (db : Trees) → ResetsThese names (state g old.conn).now.trees db → HasNumbers db × (entries_in db ≡ reset_of (kept_entries g old) names)
  these_mean it db resets = (resets.numbers, resets.entries ∙ ap (λ (d : Database). reset_of (entries_in d.trees) names) (sym it.whole.laid.committed))

  pub these_answer : (new : Kept S) (made : Result ResetResult TableFault) (result : Result ResetResult StoreFault) → result ≡ call_result made → (IsFaithful g new → IsFaithful g old)
      → (HasCleanDisk (state g new.conn) → IfOk made (λ done. done ≡ answer_of (entries_in (state g old.conn).now.trees) names)) → Answers g old new names result
  these_answer new made result is was answers it = subst (λ r. IfOk r (λ answer. answer ≡ answer_of (kept_entries g old) names)) (sym is) (go made (answers it.clean))
    where
      same : entries_in (state g old.conn).now.trees ≡ kept_entries g old
      same = sym (ap (λ (d : Database). entries_in d.trees) (was it).whole.laid.committed)

      go : (m : Result ResetResult TableFault) → IfOk m (λ done. done ≡ answer_of (entries_in (state g old.conn).now.trees) names) → IfOk (call_result m) (λ answer. answer ≡ answer_of (kept_entries g old) names)
      go (Ok done) is_so = is_so ∙ ap (λ (m : EntryMap). answer_of m names) same
      go (Err fault) is_so = tt
