-- A schedule of which some line isn't an event.
use Rattle.std.proofs.Common.{◌≡◌, ◌⊎◌, ℕ, List, Result, Err, inl, inr, ap, sym, ◌∙◌}
use Rattle.world_sim.specs.declared.acting.Act.{Act}
use Rattle.world_sim.specs.declared.events.Event.{Event}
use Rattle.world_sim.specs.declared.schedules.ScheduleFault.{ScheduleFault}
use Rattle.world_sim.specs.declared.schedules.ScheduleFault.TheVariants.{Line, Memory}
use Rattle.commands.specs.SimulationsAmong.{alone_or, among_in}

pub no_events : (fault : ScheduleFault) (number : ℕ) (said : Result (List Event) ScheduleFault) (acts : Result (List Act) ScheduleFault) → fault ≡ Line number → (fault ≡ Memory) ⊎ (said ≡ Err fault)
    → alone_or said acts ≡ among_in acts
no_events fault number said acts is (inl memory) = let clash : Line number ≡ Memory = sym is ∙ memory in absurd (cc)
no_events fault number said acts is (inr gives) = ap (λ s. alone_or s acts) gives
