-- What was learnt of the provider, and the entries without it.
use Rattle.std.specs.Prelude.{ℕ, Bool, not, ◌||◌, None, is_some, map}
use Rattle.std.specs.FinMap.{entries, from_entries, values}
use Rattle.std.specs.List.{count_by}
use Rattle.scim_key.specs.Revisions.{no_revision, same_revision}
use Rattle.journal_core.specs.Entries.{EntryMap}
use Rattle.journal_core.specs.declared.entries.Entry.{Entry}

-- the entry with no confirmed revision and no id; its row stays
abbrev pub unlearnt : Entry → Entry
unlearnt entry = record entry { confirmed = no_revision; id = None }

-- the entries, each unlearnt
abbrev pub forgotten : EntryMap → EntryMap
forgotten map_ = from_entries (map (λ e. (e.0, unlearnt e.1)) (entries map_))

-- a revision of the record is confirmed, or its id is known
abbrev pub is_learnt : Entry → Bool
is_learnt entry = not (same_revision entry.confirmed no_revision) || is_some entry.id

-- how many of the entries have something that was learnt
abbrev pub learnt_count : EntryMap → ℕ
learnt_count map_ = count_by is_learnt (values map_)
