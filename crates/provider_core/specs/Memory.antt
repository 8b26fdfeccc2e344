-- The rows of a registry in memory, and the index that finds them by name.
use Rattle.std.specs.Prelude.{◌≡◌, ℕ, ◌≤◌, List, length, option_map}
use Rattle.std.specs.BTreeMap.{BTreeMap, get}
use Rattle.std.specs.declared.cmp.Ordering.{Ordering}
use Rattle.scim_key.specs.Identifiers.{last_number}
use Rattle.scim_key.specs.declared.records.RecordName.{RecordName}
use Rattle.scim_key.specs.Records as names
use Rattle.scim_resource.specs.Rows.{StoredRecord}
use Rattle.provider_core.specs.Rows.{row_named, IsNumberedFrom, AreNamedApart}

-- the rows in order of creation, and how many writes there were
pub record MemoryRecord : Type 0 where
  pub rows : List StoredRecord
  pub writes : ℕ

-- the order of names
abbrev pub name_cmp : RecordName → RecordName → Ordering
name_cmp = names.name_cmp

-- The rows are numbered from 1, no two are of the same record, and the index has the number of each name's row
pub record IsIndexed (numbers : BTreeMap RecordName ℕ) (rows : List StoredRecord) : Type 0 where
  pub within : length rows ≤ last_number
  pub numbered : IsNumberedFrom 1 rows
  pub apart : AreNamedApart rows
  pub found : (name : RecordName) → get name_cmp numbers name ≡ option_map (λ row. row.number) (row_named name rows)
