-- If nothing is lost, at most three exchanges for each record settle all records.
use Rattle.std.specs.Prelude.{◌≡◌, ℕ, zero, suc, ◌+◌, ◌≤◌, List, [], ◌∷◌, length, Some}
use Rattle.std.specs.List.{AllByRecursion}
use Rattle.scim_key.specs.declared.records.RecordName.{RecordName}
use Rattle.scim_message.specs.declared.messages.Request.{Request}
use Rattle.provider_core.specs.Stories.{Entry}
use Rattle.source_csv.specs.Records.{row_revision}
use Rattle.mapping.specs.Images.{image}
use Rattle.connector_core.specs.History.{last_row}
use Rattle.connector_core.specs.Asking.{asking}
use Rattle.connector_core.specs.declared.asking.Ask.TheVariants.{Nothing, Send}
use Rattle.connector_core.specs.declared.knowledge.Known.{Known}
use Rattle.world_model.specs.World.{World, Event, Sends, Delivers, empty, names, run}
use Rattle.world_model.specs.Safe.{Has, IsEntryOf, id_in}
use Rattle.world_model.specs.Untroubled.{IsLawful}

-- One exchange: the connector's next request for a record is sent and arrives, and so does its reply
abbrev pub exchange : World → RecordName → World
exchange w name =
    run w (Sends name ∷ Delivers (suc (length w.messages)) ∷ Delivers (suc (suc (length w.messages))) ∷ [])

-- the connector has something to send for the record
abbrev pub Wants : World → RecordName → Type 0
Wants w name = (request : Request) × (asking w.book name ≡ Some (Send request))

-- the connector has nothing to send for the record, and waits for nothing
abbrev pub Rests : World → RecordName → Type 0
Rests w name = asking w.book name ≡ Some Nothing

-- `count` exchanges for one record, each of which sends, lead from w to v
abbrev pub Exchanges : World → RecordName → (count : ℕ) → World → Type 0
Exchanges w name zero v = v ≡ w
Exchanges w name (suc count) v = Wants w name × Exchanges (exchange w name) name count v

-- exchanges for each of these records in turn, until there is nothing to send for it, lead from w to v: at most three
-- for each, and `count` in all
abbrev pub Turns : World → List RecordName → (count : ℕ) → World → Type 0
Turns w [] count v = (v ≡ w) × (count ≡ 0)
Turns w (name ∷ names) count v = (here there : ℕ) × (u : World) × (here ≤ 3) × Exchanges w name here u
    × Rests u name × Turns u names there v × (count ≡ here + there)

-- the wanted revision is confirmed, and the provider holds the image of the wanted row, which is the record's last row
pub record IsSettledOf (w : World) (name : RecordName) : Type 0 where
  pub known : Known
  pub entry : Entry
  pub in_book : w.book name ≡ Some known
  pub wanted : last_row w.history name ≡ Some known.wanted
  pub confirmed : known.confirmed ≡ row_revision known.wanted
  pub of_record : IsEntryOf w.entries name entry
  pub held : image (id_in w.entries) known.wanted ≡ Some entry.held

-- every record of the source is settled
abbrev pub IsSettled : World → Type 0
IsSettled w = (name : RecordName) → Has (names w) name → IsSettledOf w name

-- from each world of a run, at most three exchanges for each record, in the order of names (users before groups),
-- settle all records
abbrev pub Settles : Type 0
Settles = (events : List Event) → AllByRecursion IsLawful events
    → (count : ℕ) × (v : World) × Turns (run empty events) (names (run empty events)) count v × IsSettled v

-- no other exchanges do: their number and the world after them are determined
abbrev pub OneWay : Type 0
OneWay = (w : World) (names : List RecordName) (m n : ℕ) (u v : World) → Turns w names m u
    → Turns w names n v → (m ≡ n) × (u ≡ v)

-- after any first part of a record's exchanges, the remaining ones lead to the same world
abbrev pub LeadsOn : Type 0
LeadsOn = (w : World) (name : RecordName) (m n : ℕ) (u v : World) → Exchanges w name m u
    → Exchanges w name n v → Rests v name
    → (left : ℕ) × (m + left ≡ n) × Exchanges u name left v
