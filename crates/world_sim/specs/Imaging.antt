-- What others ask for by a row. Members of a group have the ids that the provider's rows give.
use Rattle.std.specs.Prelude.{◌≡◌, ℕ, List, [], Option, None, OnOk, Result, Ok, Err}
use Rattle.std.specs.BTreeMap.{BTreeMap, get}
use Rattle.std.specs.List.{AllByRecursion}
use Rattle.std.specs.Option.{option_map, unwrap_or}
use Rattle.scim_key.specs.Identifiers.{id_text}
use Rattle.scim_key.specs.Stores.{CountsFaults, LeavesNoMore}
use Rattle.scim_key.specs.declared.records.RecordName.{RecordName}
use Rattle.scim_resource.specs.Rows.{StoredRecord}
use Rattle.scim_resource.specs.declared.contents.Content.{Content}
use Rattle.provider_core.specs.Rows.{row_named}
use Rattle.provider_core.specs.declared.registry.Registry.{Ghosts as Registries}
use Rattle.source_csv.specs.Records.{row_name, user}
use Rattle.source_csv.specs.declared.rows.Row.{Row}
use Rattle.mapping.specs.Images.{imaged}
use Rattle.mapping.specs.declared.groups.ImageFault.{ImageFault}
use Rattle.mapping.specs.declared.groups.ImageFault.TheVariants.{MemberWithoutId, Memory}
use Rattle.connector_core.specs.Changing.{member_at}
use Rattle.connector_core.specs.Trees.{key_cmp}
use Rattle.world_sim.specs.Acts.{write_request}
use Rattle.world_sim.specs.Sides.{CountsWorldFault}
use Rattle.world_sim.specs.declared.imaging.RowRequest.{RowRequest}
use Rattle.world_sim.specs.declared.imaging.RowRequest.TheVariants as requests
use Rattle.world_sim.specs.declared.reports.WorldFault.{WorldFault}

-- ---- requests

-- the id of a row, if there is a row
abbrev pub id_found : Option StoredRecord → Option (List ℕ)
id_found found = option_map (λ row. id_text row.number) found

-- the id that these rows give a record
abbrev pub id_in : List StoredRecord → RecordName → Option (List ℕ)
id_in rows name = id_found (row_named name rows)

-- the request for the image of a row, by the row that has its name, or the member that it waits for (the last case
-- doesn't occur: no image runs out of memory)
abbrev pub request_told : Row → Option StoredRecord → Result Content ImageFault → RowRequest
request_told row held (Ok content) = requests.Asks (write_request held content)
request_told row held (Err (MemberWithoutId place)) = requests.Waits (member_at row place)
request_told row held (Err Memory) = requests.Waits []

-- What others ask for by a row over these rows: the creation of its image, or the unconditional replacement of what has
-- its name. Each member has the id that the rows give it. If one has none, the row waits for the first of them by key
abbrev pub row_request : List StoredRecord → Row → RowRequest
row_request rows row = request_told row (row_named (row_name row) rows) (imaged (id_in rows) row)

-- ---- ids that were looked up

-- the id of the user with this key, if one was found
abbrev pub looked_up : BTreeMap (List ℕ) (Option (List ℕ)) → List ℕ → Option (List ℕ)
looked_up found key = unwrap_or (get key_cmp found key) None

-- of each of these users the id was looked up in these rows
abbrev pub HasIdsOf : BTreeMap (List ℕ) (Option (List ℕ)) → List StoredRecord → (keys : List (List ℕ)) → Type 0
HasIdsOf found rows keys = AllByRecursion (λ key. looked_up found key ≡ id_in rows (user key)) keys

-- A call that reads some rows, or none: as `Reads` says, but if it reads none, the registry may be shut as before
pub record LooksUp {R T : Type 0} (g : Registries R) (old new : R) (result : Result T WorldFault) : Type 0 where
  pub was : g.is_faithful new → g.is_faithful old
  pub same : g.is_faithful new → g.rows new ≡ g.rows old
  pub honest : g.is_honest new → g.is_honest old
  pub stays : g.is_honest new → g.is_faithful old → OnOk result (g.is_faithful new)
  pub stop : g.is_honest new → LeavesNoMore (g.may_hold old) (g.may_hold new)
  pub counted : CountsFaults CountsWorldFault (g.faults old) (g.faults new) result
  pub unwritten : g.writes new ≡ g.writes old
