use Rattle.std.proofs.Common.{refl}
use Rattle.std.proofs.lemmas.Result.{IfErr-weaker, IfOk-weaker}
use Rattle.world_sim.specs.Settling.{Settles, Stops}
use Rattle.world_sim.proofs.SharingLemmas.{done_at, settles_there}
use Rattle.world_sim.proofs.several.SharedWorld.settle_at.Goals as goal

pub returns-clause-settles : goal.returns-clause-settles
returns-clause-settles g c =
    IfOk-weaker c.settle-result.result _ _
    (λ count settles. settles_there g.R.Registry g.J.Journal c.args.self.now c.sit-2.new.self c.args.place count
    (done_at c.args.self.now c.sit.new.self (record c.sit.new.self { first = c.settle-result.new.world }) c.sit-2.new.self c.args.place
    (λ was is. Settles g.R.Registry g.J.Journal was is count)
    c.sit.ensures.seat c.sit.ensures.first c.sit.ensures.others refl settles c.sit-2.ensures.seat c.sit-2.ensures.first c.sit-2.ensures.others))
    c.settle-result.ensures.settles

pub returns-clause-stops : goal.returns-clause-stops
returns-clause-stops g c =
    IfErr-weaker c.settle-result.result _ _
    (λ fault stops. done_at c.args.self.now c.sit.new.self (record c.sit.new.self { first = c.settle-result.new.world }) c.sit-2.new.self c.args.place
    (λ was is. Stops g.R.Registry g.J.Journal was is fault)
    c.sit.ensures.seat c.sit.ensures.first c.sit.ensures.others refl stops c.sit-2.ensures.seat c.sit-2.ensures.first c.sit-2.ensures.others)
    c.settle-result.ensures.stops
