-- What the world shows of a record.
use Rattle.std.specs.Prelude.{◌≡◌, ◌⊎◌, ℕ, List, false, length, Option, Some, None}
use Rattle.std.specs.Option.{option_map, unwrap_or}
use Rattle.scim_key.specs.Revisions.{RevisionValue, no_revision}
use Rattle.scim_key.specs.Stores.{HasRisen}
use Rattle.scim_key.specs.declared.records.RecordName.{RecordName}
use Rattle.scim_resource.specs.Contents.{content_active, content_members, content_revision}
use Rattle.scim_resource.specs.Rows.{StoredRecord}
use Rattle.provider_core.specs.Rows.{row_named}
use Rattle.provider_core.specs.declared.registry.Registry.{Ghosts as Registries}
use Rattle.journal_core.specs.declared.journals.Journal.{Ghosts as Journals}
use Rattle.connector_core.specs.Book.{confirmed_of, wanted_of}
use Rattle.world_model.specs.World.{World, message_at}
use Rattle.world_model.specs.Safe.{rows}
use Rattle.world_sim.specs.Messages.{message_text}
use Rattle.world_sim.specs.Running.{IsAmong, IsSound, Scope, is_open, opens_of}
use Rattle.world_sim.specs.declared.reports.WorldFault.{WorldFault}
use Rattle.world_sim.specs.declared.reports.WorldFault.TheVariants.{Memory, Store}
use Rattle.world_sim.specs.declared.sides.Side.{Side}
use Rattle.world_sim.specs.declared.views.View.{View}
use Rattle.world_sim.specs.declared.worlds.World.{World as Running}

-- the view of a record, given the provider's row of it, if there is one
abbrev pub viewed : RecordName → (wanted confirmed : RevisionValue) → Option StoredRecord → View
viewed name wanted confirmed None = record {
  name = name;
  wanted = wanted;
  confirmed = confirmed;
  held = no_revision;
  version = 0;
  active = None;
  members = 0;
}
viewed name wanted confirmed (Some row) = record {
  name = name;
  wanted = wanted;
  confirmed = confirmed;
  held = unwrap_or (content_revision row.content) no_revision;
  version = row.version;
  active = content_active row.content;
  members = length (content_members row.content);
}

-- What the connector wants and counts as confirmed for a record, and what the provider holds of it
abbrev pub view : World → RecordName → View
view w name = viewed name (wanted_of w.book name) (confirmed_of w.book name) (row_named name (rows w))

-- this is the view of each world that runs
abbrev pub Shows : {R J : Type 0} → Registries R → Journals J → (old new : Running R J) → RecordName → View → Type 0
Shows g h old new name shown =
    IsSound g h new → (scope : Scope) (w : World) → IsAmong g h scope old w → shown ≡ view w name

-- these are the bytes of the message with this number, counted from 1, in each world that runs
abbrev pub ShowsMessage : {R J : Type 0} → Registries R → Journals J → Running R J → (number : ℕ) → Option (List ℕ)
    → Type 0
ShowsMessage g h r number shown = (scope : Scope) (w : World) → IsAmong g h scope r w
    → shown ≡ option_map (message_text r.service) (message_at w.messages number)

-- ---- faults

-- the names can't be shown: out of memory, or the connector is shut
abbrev pub IsNoName : {J : Type 0} → Side J → WorldFault → Type 0
IsNoName side Memory = Unit {0}
IsNoName side Store = is_open side ≡ false

-- nothing can be shown: out of memory, which isn't a fault of a store; or a side is shut; or a fault of the registry
-- was counted
abbrev pub IsBlind : {R J : Type 0} → Registries R → (old new : Running R J) → WorldFault → Type 0
IsBlind g old new Memory = g.faults new.provider ≡ g.faults old.provider
IsBlind g old new Store = (is_open old.connector ≡ false)
    ⊎ ((old.is_provider_open ≡ false) ⊎ HasRisen (g.faults old.provider) (g.faults new.provider))

-- A look at the running world: each world that ran before it runs after it
pub record Looks {R J : Type 0} (g : Registries R) (h : Journals J) (old new : Running R J) : Type 0 where
  pub was : IsSound g h new → IsSound g h old
  pub base : new.service ≡ old.service
  pub sent : new.sent.items ≡ old.sent.items
  pub opens : opens_of new ≡ opens_of old
  pub is : IsSound g h new → {scope : Scope} (w : World) → IsAmong g h scope old w → IsAmong g h scope new w
