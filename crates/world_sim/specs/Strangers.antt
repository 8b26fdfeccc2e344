-- Records that others write by rows.
use Rattle.std.specs.BTreeSet.{BTreeSet, contains}
use Rattle.std.specs.Prelude.{◌≡◌, Bool, if◌then◌else◌, List, [], ◌∷◌, ◌++◌, Option, Some, None, option_to_list}
use Rattle.std.specs.List.{list_any}
use Rattle.scim_key.specs.Records.{name_cmp, same_name}
use Rattle.scim_key.specs.declared.records.RecordName.{RecordName}
use Rattle.source_csv.specs.Records.{row_name}
use Rattle.source_csv.specs.declared.rows.Row.{Row}
use Rattle.world_sim.specs.declared.acting.Act.{Act}
use Rattle.world_sim.specs.declared.acting.Act.TheVariants as deeds
use Rattle.world_sim.specs.declared.events.Event.{Event}
use Rattle.world_sim.specs.declared.events.Event.TheVariants as events

abbrev pub is_one_of : List RecordName → RecordName → Bool
is_one_of names name = list_any (λ one. same_name one name) names

-- a set has just these names
abbrev pub HasNames : BTreeSet RecordName → List RecordName → Type 0
HasNames set names = (name : RecordName) → contains name_cmp set name ≡ is_one_of names name

-- the row of which others write the image by an act, or of which the provider holds the image at the start
abbrev pub written : Act → Option Row
written (deeds.Ours event) = None
written (deeds.Asks request) = None
written (deeds.Writes content) = None
written (deeds.WritesRow row) = Some row
written (deeds.Holds row) = Some row

-- the record of a row, if it isn't known
abbrev pub unknown_of : (known : List RecordName) → Option Row → Option RecordName
unknown_of known None = None
unknown_of known (Some row) = if is_one_of known (row_name row) then None else Some (row_name row)

-- the record that others write by the row of an act, if it isn't known
abbrev pub met : (known : List RecordName) → Act → Option RecordName
met known act = unknown_of known (written act)

-- The records that others write by rows, but for those that are known, each once, in the order in which they come
abbrev pub strangers : (known : List RecordName) → List Act → List RecordName
strangers known [] = []
strangers known (act ∷ acts) =
    option_to_list (met known act) ++ strangers (known ++ option_to_list (met known act)) acts

-- the record of which our source offers a row by an event, if it offers one
abbrev pub offered_by : Event → Option RecordName
offered_by (events.Change row) = Some (row_name row)
offered_by (events.Send name) = None
offered_by (events.Deliver number) = None
offered_by (events.Cut number length) = None
offered_by events.RestartProvider = None
offered_by events.RestartConnector = None
offered_by (events.Doubt name) = None

-- the same by an act
abbrev pub offer : Act → Option RecordName
offer (deeds.Ours event) = offered_by event
offer (deeds.Asks request) = None
offer (deeds.Writes content) = None
offer (deeds.WritesRow row) = None
offer (deeds.Holds row) = None

-- The records of which our source offers rows by these acts, in their order
abbrev pub offered : List Act → List RecordName
offered [] = []
offered (act ∷ acts) = option_to_list (offer act) ++ offered acts

-- The record that others write by the row of an act, if it is one of these
abbrev pub contested : (ours : List RecordName) → Act → Option RecordName
contested ours (deeds.Ours event) = None
contested ours (deeds.Asks request) = None
contested ours (deeds.Writes content) = None
contested ours (deeds.WritesRow row) = if is_one_of ours (row_name row) then Some (row_name row) else None
contested ours (deeds.Holds row) = None
