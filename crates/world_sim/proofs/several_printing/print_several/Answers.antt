use Rattle.std.proofs.Common.{arith, ◌≡◌, ◌+◌, ◌∷◌, inl, inr, length, refl, subst}
use Rattle.std.proofs.lemmas.Result.{err_from_is_err_and}
use Rattle.std.specs.List.{AllByRecursion}
use Rattle.world_sim.specs.Several.{IsBelow, seats_of}
use Rattle.world_sim.proofs.SharedRuns.{all_printed_several, stops_after_turns, turns_run}
use Rattle.world_sim.proofs.several_printing.print_several.Goals as goal

pub make_all-requires-clause-runs : goal.make_all-requires-clause-runs
make_all-requires-clause-runs g c = turns_run g.R.Registry g.J.Journal

pub make_all-requires-clause-fits : goal.make_all-requires-clause-fits
make_all-requires-clause-fits g c =
    let many : length c.args.others.items + 1 ≡ length (seats_of c.in_ok-world.world) = omega (arith, c.in_ok-world.ensures.starts.count) in
    subst (λ n. AllByRecursion (IsBelow n) c.args.turns.now) many c.requires

pub returns-clause-prints : goal.returns-clause-prints
returns-clause-prints g c =
    all_printed_several g.R.Registry g.J.Journal g.W.Write.contents c.in_ok-world.world c.make_all.new.world c.args.registry (c.args.first ∷ c.args.others.items) c.args.base c.args.turns.now c.args.settles
    c.args.lines.now c.make_all.new.follower (record { out = c.print_end_several.new.out; reports = c.make_all.new.follower.reports }) (record { world = c.print_end_several.new.world; views = c.in_ok-views.views })
    c.in_ok-world.ensures.starts c.in_ok-make_all.ensures.runs c.in_ok-views.ensures refl

pub returns-in_err-views-clause-fault : goal.returns-in_err-views-clause-fault
returns-in_err-views-clause-fault g c =
    stops_after_turns g.R.Registry g.J.Journal g.W.Write.contents c.in_ok-world.world c.make_all.new.world c.args.registry (c.args.first ∷ c.args.others.items) c.args.base c.args.turns.now
    c.args.lines.now c.make_all.new.follower (record { out = c.print_end_several.new.out; reports = c.make_all.new.follower.reports }) c.from_residual-in_err-views.result
    c.in_ok-world.ensures.starts c.in_ok-make_all.ensures.runs refl

pub returns-in_err-world-clause-fault : goal.returns-in_err-world-clause-fault
returns-in_err-world-clause-fault g c =
    let p = err_from_is_err_and c.from_residual.result c.from_residual.ensures.1 in
    rw (p.1, p.2) (inl (c.in_err-world.ensures.fault, refl))

pub returns-in_err-make_all-clause-fault : goal.returns-in_err-make_all-clause-fault
returns-in_err-make_all-clause-fault g c =
    let p = err_from_is_err_and c.from_residual-in_err-make_all.result c.from_residual-in_err-make_all.ensures.1 in
    rw (p.1, p.2) (inr (c.in_ok-world.world, c.in_ok-world.ensures.starts, inl c.in_err-make_all.ensures.fault))
