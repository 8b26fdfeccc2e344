use Rattle.std.proofs.Common.{◌≡◌, rules}
use Rattle.world_sim.proofs.GoingOn.{changes_on, fails_on_change}
use Rattle.world_sim.proofs.Keeping.{known_still, on_err}
use Rattle.world_sim.proofs.Restarts.{fails_to_change}
use Rattle.world_sim.proofs.Steps.{changes_told}
use Rattle.world_sim.proofs.worlds.World.change.Goals as goal

pub returns-clause-done : goal.returns-clause-done
returns-clause-done g c =
    let copied : c.in_ok-copy.copy ≡ c.args.row.now = search rules in
    let told = c.judge.ensures in
    changes_told g.R.Registry g.J.Journal c.args.self.now c.in-Open.connector c.judge.new.connector c.args.row.now c.in_ok-copy.copy c.judge.result (search rules) copied c.in-Open.is
    told.honest told.open told.leaves told.book told.report

pub returns-clause-fails : goal.returns-clause-fails
returns-clause-fails g c =
    let copied : c.in_ok-copy.copy ≡ c.args.row.now = search rules in
    let told = c.judge.ensures in
    fails_to_change g.R.Registry g.J.Journal c.args.self.now c.in-Open.connector c.judge.new.connector c.args.row.now c.in_ok-copy.copy c.judge.result copied c.in-Open.is
    told.same told.honest told.still told.leaves told.counted

pub returns-clause-goes_on : goal.returns-clause-goes_on
returns-clause-goes_on g c =
    let copied : c.in_ok-copy.copy ≡ c.args.row.now = search rules in
    let told = c.judge.ensures in
    changes_on g.R.Registry g.J.Journal c.args.self.now c.in-Open.connector c.judge.new.connector c.args.row.now c.in_ok-copy.copy c.judge.result (search rules) copied c.in-Open.is
    told.honest told.open told.leaves told.book told.report

pub returns-clause-fails_on : goal.returns-clause-fails_on
returns-clause-fails_on g c =
    let copied : c.in_ok-copy.copy ≡ c.args.row.now = search rules in
    let told = c.judge.ensures in
    fails_on_change g.R.Registry g.J.Journal c.args.self.now c.in-Open.connector c.judge.new.connector c.args.row.now c.in_ok-copy.copy c.judge.result copied c.in-Open.is
    told.same told.honest told.still told.leaves told.counted

pub returns-clause-keeps : goal.returns-clause-keeps
returns-clause-keeps g c = on_err c.judge.result (λ same _. known_still c.args.self.now.connector c.in-Open.connector c.judge.new.connector c.in-Open.is same) c.judge.ensures.same
