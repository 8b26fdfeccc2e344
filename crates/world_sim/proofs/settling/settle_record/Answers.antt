use Rattle.std.proofs.Common.{◌≡◌, false, true, subst, arith, rules}
use Rattle.std.proofs.lemmas.Result.{err_from_is_err_and}
use Rattle.world_sim.specs.Settling.{SettlesRecord, TakesStep}
use Rattle.world_sim.proofs.SettlingLemmas.{all_so_far, none_so_far, one_more, rests_so_far, stops_after}
use Rattle.world_sim.proofs.settling.settle_record.Goals as goal

pub loop-exchanges-init : goal.loop-exchanges-init
loop-exchanges-init g c = none_so_far g.R.Registry g.J.Journal c.args.world.now c.args.name.now

pub returns-in_err-is_made-clause-stops : goal.returns-in_err-is_made-clause-stops
returns-in_err-is_made-clause-stops g c =
    let p = err_from_is_err_and c.from_residual.result c.from_residual.ensures.1 in
    rw (p.1, p.2) (stops_after g.R.Registry g.J.Journal c.args.world.now c.loop-exchanges.world c.exchange_once.new.world c.loop-exchanges.invariant.done
    c.in_err-is_made.field-0.0 c.in_err-is_made.ensures.stops)

pub returns-then-not-is_made-clause-settles : goal.returns-then-not-is_made-clause-settles
returns-then-not-is_made-clause-settles g c =
    let none : c.in_ok-is_made.is_made ≡ false = search rules in
    rests_so_far g.R.Registry g.J.Journal c.args.world.now c.loop-exchanges.world c.exchange_once.new.world c.args.name.now c.loop-exchanges.exchanges
    (omega (arith, c.loop-exchanges-test.true)) c.loop-exchanges.invariant
    (subst (λ made. TakesStep g.R.Registry g.J.Journal c.loop-exchanges.world c.exchange_once.new.world c.args.name.now made) none c.in_ok-is_made.ensures.step)

pub loop-exchanges-preserved : goal.loop-exchanges-preserved
loop-exchanges-preserved g c =
    let one : c.in_ok-is_made.is_made ≡ true = search rules in
    one_more g.R.Registry g.J.Journal c.args.world.now c.loop-exchanges.world c.exchange_once.new.world c.args.name.now c.loop-exchanges.exchanges c.loop-exchanges.invariant
    (subst (λ made. TakesStep g.R.Registry g.J.Journal c.loop-exchanges.world c.exchange_once.new.world c.args.name.now made) one c.in_ok-is_made.ensures.step)

pub returns-clause-settles : goal.returns-clause-settles
returns-clause-settles g c =
    let whole : c.loop-exchanges.exchanges ≡ 3 = omega (arith, c.loop-exchanges-test.false, c.loop-exchanges.auto.exchanges-end) in
    subst (λ n. SettlesRecord g.R.Registry g.J.Journal c.args.world.now c.loop-exchanges.world c.args.name.now n) whole
    (all_so_far g.R.Registry g.J.Journal c.args.world.now c.loop-exchanges.world c.args.name.now c.loop-exchanges.exchanges whole c.loop-exchanges.invariant)
