-- Others who write at the provider of the running world: administrators, other tools, other connectors.
use Rattle.std.specs.Prelude.{◌≡◌, ◌⊎◌, ℕ, List, Option, Some, None, false}
use Rattle.scim_key.specs.Identifiers.{id_text}
use Rattle.scim_key.specs.Stores.{HasRisen}
use Rattle.scim_message.specs.Messages.{answer_status}
use Rattle.scim_message.specs.declared.messages.Request.{Request}
use Rattle.scim_message.specs.declared.messages.Request.TheVariants.{Create, Replace}
use Rattle.scim_resource.specs.Contents.{content_name}
use Rattle.scim_resource.specs.Rows.{StoredRecord}
use Rattle.scim_resource.specs.declared.contents.Content.{Content}
use Rattle.scim_version.specs.declared.conditions.Condition.TheVariants.{Always}
use Rattle.provider_core.specs.Rows.{row_named}
use Rattle.provider_core.specs.Stories.{step}
use Rattle.provider_core.specs.declared.registry.Registry.{Ghosts as Registries}
use Rattle.journal_core.specs.declared.journals.Journal.{Ghosts as Journals}
use Rattle.world_model.specs.Others.{Theirs, acts, LeavesAlone}
use Rattle.world_model.specs.World.{World}
use Rattle.world_sim.specs.GoingOn.{unknown_rows}
use Rattle.world_sim.specs.Running.{HoldsOneOf, IsAmong, IsSound, Mirrors, Scope}
use Rattle.world_sim.specs.declared.reports.WorldFault.{WorldFault}
use Rattle.world_sim.specs.declared.reports.WorldFault.TheVariants.{Memory, Store}
use Rattle.world_sim.specs.declared.worlds.World.{World as Running}

-- Somebody else's request was answered with this status: the world after that act runs now, and the registry was open
-- before it. If others leave our records alone, it is a world among others as before
pub record Answers {R J : Type 0} (g : Registries R) (h : Journals J) (old new : Running R J) (request : Request)
    (status : ℕ) : Type 0 where
  pub was : IsSound g h new → IsSound g h old
  pub stays_open : IsSound g h new → g.is_faithful old.provider → g.is_faithful new.provider
  pub is : IsSound g h new → (w : World) → Mirrors g h old w → Mirrors g h new (acts w (Theirs request))
  pub was_open : IsSound g h new → g.is_faithful old.provider
  pub among : IsSound g h new → {scope : Scope} (w : World) → IsAmong g h scope old w → LeavesAlone scope.ours request
      → IsAmong g h scope new (acts w (Theirs request))
  pub answer : IsSound g h new → (w : World) → Mirrors g h old w
      → status ≡ answer_status (step w.entries request).answer

-- whatever others ask, about our records too: the running world has the parts of the world after it
abbrev pub Leads : {R J : Type 0} → Registries R → Journals J → (old new : Running R J) → (World → World) → Type 0
Leads g h old new after = IsSound g h new → (w : World) → Mirrors g h old w → Mirrors g h new (after w)

-- out of memory isn't a fault of the registry's store; a fault of it was counted, or the provider was shut before
abbrev pub IsExcusedTo : {R J : Type 0} → Registries R → (old new : Running R J) → WorldFault → Type 0
IsExcusedTo g old new Memory = g.faults new.provider ≡ g.faults old.provider
IsExcusedTo g old new Store =
    (old.is_provider_open ≡ false) ⊎ HasRisen (g.faults old.provider) (g.faults new.provider)

-- What others do wasn't done: each world that ran before it runs now, if its fault didn't shut the registry. Whether it
-- did or not, the registry holds what it held before, or what this would have made of it, and nothing else of the world
-- changed. `made` is the world that it would have made
pub record FailsToMake {R J : Type 0} (g : Registries R) (h : Journals J) (old new : Running R J)
    (made : World → World) (fault : WorldFault) : Type 0 where
  pub was : IsSound g h new → IsSound g h old
  pub is : IsSound g h new → g.is_faithful new.provider → (w : World) → Mirrors g h old w → Mirrors g h new w
  pub leaves : IsSound g h new → (w : World) → Mirrors g h old w → HoldsOneOf g h new w (made w)
  pub rows_unknown : (w : World) → Mirrors (unknown_rows g) h old w → Mirrors (unknown_rows g) h new w
  pub excused : IsExcusedTo g old new fault

-- Somebody else's request wasn't answered
abbrev pub FailsToAnswer : {R J : Type 0} → Registries R → Journals J → (old new : Running R J) → Request → WorldFault
    → Type 0
FailsToAnswer g h old new request fault = FailsToMake g h old new (λ w. acts w (Theirs request)) fault

-- The request by which others write a content: a creation, or the unconditional replacement of the resource that has
-- its name
abbrev pub write_request : Option StoredRecord → Content → Request
write_request None content = Create content
write_request (Some row) content = Replace (id_text row.number) content Always Always

-- the same over these rows
abbrev pub write_of : List StoredRecord → Content → Request
write_of rows content = write_request (row_named (content_name content) rows) content
