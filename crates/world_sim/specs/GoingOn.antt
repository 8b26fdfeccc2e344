-- An event goes on as before, whatever a fault left of a store that it doesn't read.
use Rattle.provider_core.specs.declared.registry.Registry.{Ghosts as Registries}
use Rattle.journal_core.specs.declared.journals.Journal.{Ghosts as Journals}
use Rattle.world_model.specs.World.{World, Event}
use Rattle.world_sim.specs.Running.{Fails, Happens, IsAmong, ReadsJournal, ReadsRegistry, Scope, if_restart}
use Rattle.world_sim.specs.declared.reports.Report.{Report}
use Rattle.world_sim.specs.declared.reports.WorldFault.{WorldFault}
use Rattle.world_sim.specs.declared.worlds.World.{World as Running}

-- ---- a store of which nothing is known

-- The same registry, of which nothing is known: whether it is open, whether it returned what was committed, what it
-- holds. The running world is a world but for its rows if it is that world over such a registry
abbrev pub unknown_rows : {R : Type 0} → Registries R → Registries R
unknown_rows g =
    record g { is_faithful = λ registry. ⊥; is_honest = λ registry. Unit {0}; may_hold = λ registry found. ⊥ }

-- The same of a journal. What the connector knows isn't in its store, and stays known
abbrev pub unknown_entries : {J : Type 0} → Journals J → Journals J
unknown_entries h =
    record h { is_faithful = λ journal. ⊥; is_honest = λ journal. Unit {0}; may_hold = λ journal found. ⊥ }

-- the running world is this world, but for what its registry holds
abbrev pub IsButForRows : {R J : Type 0} → Registries R → Journals J → Scope → Running R J → World → Type 0
IsButForRows g h scope r w = IsAmong (unknown_rows g) h scope r w

-- the running world is this world, but for what its journal holds
abbrev pub IsButForEntries : {R J : Type 0} → Registries R → Journals J → Scope → Running R J → World → Type 0
IsButForEntries g h scope r w = IsAmong g (unknown_entries h) scope r w

-- ---- what an event does

-- One event, whatever a store holds that it doesn't read: for each world that ran before it, but for what that store
-- holds, the world after the event runs now, but for the same, and the report is as there
pub record GoesOn {R J : Type 0} (g : Registries R) (h : Journals J) (old new : Running R J)
    (event : Event) (told : Report) : Type 0 where
  pub but_for_rows : (ReadsRegistry old event → ⊥) → Happens (unknown_rows g) h old new event told
  pub but_for_entries : (ReadsJournal event → ⊥) → Happens g (unknown_entries h) old new event told

-- An event failed, whatever a store holds that it doesn't read: it failed as in each world that ran before it, but for
-- what that store holds. Whatever its own store holds since, the world runs as it was but for that
pub record FailsOn {R J : Type 0} (g : Registries R) (h : Journals J) (old new : Running R J)
    (event : Event) (fault : WorldFault) : Type 0 where
  pub but_for_rows : (ReadsRegistry old event → ⊥) → Fails (unknown_rows g) h old new event fault
  pub but_for_entries : (ReadsJournal event → ⊥) → Fails g (unknown_entries h) old new event fault
  pub rows_unknown : ReadsRegistry old event → {scope : Scope} (w : World) → IsButForRows g h scope old w
      → IsButForRows g h scope new w
  pub entries_unknown : (ReadsRegistry old event → ⊥) → {scope : Scope} (w : World) → IsButForEntries g h scope old w
      → IsButForEntries g h scope new (if_restart w event)
