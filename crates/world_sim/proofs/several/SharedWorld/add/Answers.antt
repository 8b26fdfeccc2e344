use Rattle.std.proofs.Common.{◌≡◌, ◌∷◌, [], refl, rules, subst, sym}
use Rattle.std.proofs.lemmas.Result.{IfErr-weaker, on_ok_weaker}
use Rattle.scim_key.specs.Bases.{IsBase}
use Rattle.world_sim.specs.Events.{opening_fault}
use Rattle.world_sim.specs.Several.{FailsToStart, seated}
use Rattle.world_sim.specs.declared.sides.Side.TheVariants.{Open}
use Rattle.world_sim.specs.declared.several.Seat.{Seat}
use Rattle.world_sim.proofs.SharedRuns.{added_one, opening_counts, unstarted_here, unstarted_memory}
use Rattle.world_sim.proofs.WholeRuns.{starts_now}
use Rattle.world_sim.proofs.several.SharedWorld.add.Goals as goal

pub returns-in-Ok-clause-adds : goal.returns-in-Ok-clause-adds
returns-in-Ok-clause-adds g c =
    let base : IsBase c.args.self.now.first.service = search rules in
    let seat : Seat _ = record { connector = Open c.in-Ok.connector; sent = c.new.result } in
    on_ok_weaker c.keep.result (λ added. added_one g.R.Registry g.J.Journal c.args.self.now _ seat c.args.journal refl added
    (starts_now g.R.Registry g.J.Journal (seated c.args.self.now.first seat) c.args.self.now.first.provider c.in-Ok.connector c.args.journal base refl refl c.new.ensures.items
    c.in-Ok.ensures.opened c.in-Ok.ensures.reads.was c.in-Ok.ensures.reads.opened c.in-Ok.ensures.leaves (g.met.R.Registry.settled c.args.self.now.first.provider))) c.keep.ensures.kept

pub returns-in-Ok-clause-fault : goal.returns-in-Ok-clause-fault
returns-in-Ok-clause-fault g c = IfErr-weaker c.keep.result _ _ (λ fault memory. unstarted_memory g.J.Journal c.args.journal fault memory) c.keep.ensures.memory

pub returns-in-Err-clause-fault : goal.returns-in-Err-clause-fault
returns-in-Err-clause-fault g c =
    let is : c.from.result ≡ opening_fault c.in-Err.fault = search rules in
    subst (FailsToStart g.J.Journal (c.args.journal ∷ [])) (sym is) (unstarted_here g.J.Journal c.args.journal _ _ (opening_counts _ _ c.in-Err.fault c.in-Err.ensures.reads.counted))
