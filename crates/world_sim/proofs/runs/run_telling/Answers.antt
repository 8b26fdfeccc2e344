use Rattle.std.proofs.Common.{inl, inr, refl}
use Rattle.std.proofs.lemmas.Result.{err_from_is_err_and}
use Rattle.world_sim.proofs.TellingLemmas.{all_fit, events_end_early, events_ran, events_run}
use Rattle.world_sim.proofs.runs.run_telling.Goals as goal

pub make_all-requires-clause-runs : goal.make_all-requires-clause-runs
make_all-requires-clause-runs g c = events_run g.R.Registry g.J.Journal

pub make_all-requires-clause-fits : goal.make_all-requires-clause-fits
make_all-requires-clause-fits g c = all_fit c.args.events.now

pub returns-clause-ran : goal.returns-clause-ran
returns-clause-ran g c =
    events_ran g.R.Registry g.J.Journal g.F.Follow.told g.F.Follow.does c.args.registry c.args.journal c.args.base c.in_ok-world.world c.make_all.new.world c.args.events.now c.args.follower.now c.make_all.new.follower
    c.in_ok-world.ensures.starts c.in_ok-make_all.ensures.runs

pub returns-in_err-world-clause-fault : goal.returns-in_err-world-clause-fault
returns-in_err-world-clause-fault g c =
    let p = err_from_is_err_and c.from_residual.result c.from_residual.ensures.1 in
    let (left, counts) = c.in_err-world.ensures.fault in
    rw (p.1, p.2) (inl (record { left = left; counts = counts; untold = refl }))

pub returns-in_err-make_all-clause-fault : goal.returns-in_err-make_all-clause-fault
returns-in_err-make_all-clause-fault g c =
    let p = err_from_is_err_and c.from_residual-in_err-make_all.result c.from_residual-in_err-make_all.ensures.1 in
    rw (p.1, p.2) (inr (c.in_ok-world.world, c.in_ok-world.ensures.starts, events_end_early g.R.Registry g.J.Journal g.F.Follow.told g.F.Follow.does c.in_ok-world.world c.args.events.now c.args.follower.now c.make_all.new.follower _ c.in_err-make_all.ensures.fault))
