-- How often each name stands in a snapshot, as a map holds it.
use Rattle.std.specs.Prelude.{◌≡◌, ◌≤◌, ℕ, ◌+◌, false, unwrap_or, if◌then◌else◌}
use Rattle.std.specs.BTreeMap.{BTreeMap, get}
use Rattle.scim_key.specs.Records.{name_cmp, same_name}
use Rattle.scim_key.specs.declared.records.RecordName.{RecordName}
use Rattle.snapshots.specs.declared.tally.Tally.{Tally}

-- how many of this name a map counts
abbrev pub count_in : BTreeMap RecordName ℕ → RecordName → ℕ
count_in counts name = unwrap_or (get name_cmp counts name) 0

-- how many records have this name
abbrev pub counts : Tally → RecordName → ℕ
counts tally name = count_in tally.counts name

-- the same, if one more record has the first name
abbrev pub mentioned_more : (RecordName → ℕ) → RecordName → RecordName → ℕ
mentioned_more mentions name other = if same_name name other then mentions other + 1 else mentions other

-- unless it says that a name is repeated, none is
abbrev pub KnowsRepeats : Tally → Type 0
KnowsRepeats tally = tally.has_repeats ≡ false → (name : RecordName) → counts tally name ≤ 1
