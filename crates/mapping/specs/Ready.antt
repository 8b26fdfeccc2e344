-- Whether each member of a group has an id at the provider.
use Rattle.std.specs.Prelude.{ℕ, List, Option, Some, None, is_none}
use Rattle.std.specs.List.{filter_map, position_from}
use Rattle.scim_key.specs.declared.records.RecordName.{RecordName}
use Rattle.source_csv.specs.Records.{user}
use Rattle.mapping.specs.declared.ids.Ready.{Ready}
use Rattle.mapping.specs.declared.ids.Ready.TheVariants.{Ids, Waits}

-- by the place of the first member that has no id, if there is one, and by the ids of the members
abbrev pub unless_missing : Option ℕ → List (List ℕ) → Ready
unless_missing None ids = Ids ids
unless_missing (Some place) ids = Waits place

-- The ids of the users with these keys, in the order of the keys, or the place, from 0, of the first user without an id
abbrev pub ready : (id_of : RecordName → Option (List ℕ)) → (keys : List (List ℕ)) → Ready
ready id_of keys =
    unless_missing (position_from (λ key. is_none (id_of (user key))) 0 keys)
    (filter_map (λ key. id_of (user key)) keys)
