-- Which records a reset is of, what it makes of the entries, and what it answers.
use Rattle.std.specs.Prelude.{◌≡◌, ◌+◌, ℕ, Bool, List, [], ◌∷◌, Option, Some, None, if◌then◌else◌}
use Rattle.std.specs.FinMap.{get, insert}
use Rattle.sqlite_trees.specs.Tree.{Trees}
use Rattle.scim_key.specs.declared.records.RecordName.{RecordName}
use Rattle.journal_core.specs.Entries.{EntryMap}
use Rattle.journal_core.specs.Forgetting.{forgotten, is_learnt, learnt_count, unlearnt}
use Rattle.journal_core.specs.declared.entries.Entry.{Entry}
use Rattle.journal_store.specs.Connections.{HasNumbers}
use Rattle.journal_store.specs.Rows.{entries_in}
use Rattle.journal_store.specs.declared.scopes.ResetResult.{ResetResult}
use Rattle.journal_store.specs.declared.scopes.ResetResult.TheVariants.{Absent, Changed}
use Rattle.journal_store.specs.declared.scopes.Scope.{Scope}
use Rattle.journal_store.specs.declared.scopes.Scope.TheVariants.{All, These}

-- ---- entries

abbrev pub unlearnt_at : EntryMap → RecordName → Option Entry → EntryMap
unlearnt_at map name None = map
unlearnt_at map name (Some entry) = insert map name (unlearnt entry)

-- the entries once those of these records are unlearnt, one after another
abbrev pub forgotten_of : EntryMap → List RecordName → EntryMap
forgotten_of map [] = map
forgotten_of map (name ∷ names) = forgotten_of (unlearnt_at map name (get map name)) names

-- whether an entry has something that was learnt, as a number
abbrev pub learnt_number : Option Entry → ℕ
learnt_number None = 0
learnt_number (Some entry) = if is_learnt entry then 1 else 0

-- how many entries that changes: a name that comes again changes nothing
abbrev pub learnt_count_of : EntryMap → List RecordName → ℕ
learnt_count_of map [] = 0
learnt_count_of map (name ∷ names) =
    learnt_number (get map name) + learnt_count_of (unlearnt_at map name (get map name)) names

abbrev pub absent_from : (name : RecordName) → (later : Option RecordName) → Option Entry → Option RecordName
absent_from name later None = Some name
absent_from name later (Some entry) = later

-- the first of these names that has no entry
abbrev pub first_absent : EntryMap → List RecordName → Option RecordName
first_absent map [] = None
first_absent map (name ∷ names) = absent_from name (first_absent map names) (get map name)

-- ---- a reset

abbrev pub unless_absent : (absent : Option RecordName) → (same later : EntryMap) → EntryMap
unless_absent None same later = later
unless_absent (Some name) same later = same

abbrev pub changed_or_absent : (count : ℕ) → (absent : Option RecordName) → ResetResult
changed_or_absent count None = Changed count
changed_or_absent count (Some name) = Absent name

-- the entries after a reset of these records: if one of them has no entry, nothing changes
abbrev pub reset_of : EntryMap → List RecordName → EntryMap
reset_of map names = unless_absent (first_absent map names) map (forgotten_of map names)

-- what that reset answers
abbrev pub answer_of : EntryMap → List RecordName → ResetResult
answer_of map names = changed_or_absent (learnt_count_of map names) (first_absent map names)

-- the entries after a reset
abbrev pub after_reset : Scope → EntryMap → EntryMap
after_reset All map = forgotten map
after_reset (These names) map = reset_of map names.items

-- what a reset answers
abbrev pub reset_answer : Scope → EntryMap → ResetResult
reset_answer All map = Changed (learnt_count map)
reset_answer (These names) map = answer_of map names.items

-- ---- tables

-- the record's entry is unlearnt, and this says whether that changes it
pub record ResetsRecord (name : RecordName) (changes : Bool) (old new : Trees) : Type 0 where
  pub entry : Entry
  pub there : get (entries_in old) name ≡ Some entry
  pub changes_is : changes ≡ is_learnt entry
  pub numbers : HasNumbers new
  pub entries : entries_in new ≡ insert (entries_in old) name (unlearnt entry)

-- the entries of these records are unlearnt, and this many of them change
pub record ResetsEach (names : List RecordName) (count : ℕ) (old new : Trees) : Type 0 where
  pub count_is : count ≡ learnt_count_of (entries_in old) names
  pub numbers : HasNumbers new
  pub entries : entries_in new ≡ forgotten_of (entries_in old) names

-- these records are reset, or none of them
pub record ResetsThese (names : List RecordName) (old new : Trees) : Type 0 where
  pub numbers : HasNumbers new
  pub entries : entries_in new ≡ reset_of (entries_in old) names
