-- The entries of a journal in memory.
use Rattle.std.specs.Prelude.{◌≡◌, ℕ, Some}
use Rattle.std.specs.BTreeMap.{BTreeMap, get}
use Rattle.std.specs.FinMap.{from_entries}
use Rattle.scim_key.specs.Records.{name_cmp}
use Rattle.scim_key.specs.declared.records.RecordName.{RecordName}
use Rattle.journal_core.specs.Entries.{EntryMap, IsEntryOf}
use Rattle.journal_core.specs.declared.entries.Entry.{Entry}

-- the entries, and how many writes there were
pub record MemoryRecord : Type 0 where
  pub entries : EntryMap
  pub writes : ℕ

-- the entries that a tree holds
abbrev pub entries_in : BTreeMap RecordName Entry → EntryMap
entries_in tree = from_entries tree.entries

-- each entry is valid, and under the name of its record
abbrev pub AreLawful : BTreeMap RecordName Entry → Type 0
AreLawful tree = (name : RecordName) (entry : Entry) → get name_cmp tree name ≡ Some entry → IsEntryOf name entry
