use Rattle.std.proofs.Common.{◌≡◌, Some, None, false, refl, subst, rules}
use Rattle.std.specs.FinMap.{get, keys}
use Rattle.std.specs.Option.{option_map}
use Rattle.connector_core.specs.declared.knowledge.Known.{Known}
use Rattle.world_model.specs.World.{Doubts}
use Rattle.world_sim.specs.GoingOn.{GoesOn}
use Rattle.world_sim.specs.Running.{Happens}
use Rattle.world_sim.specs.declared.reports.Report.TheVariants.{UnknownRecord}
use Rattle.world_sim.specs.declared.sides.Side.{Side}
use Rattle.world_sim.proofs.GoingOn.{apart_still, doubts_none_on, doubts_on}
use Rattle.world_sim.proofs.Steps.{doubts_none, doubts_record, row_none, row_some}
use Rattle.world_sim.proofs.worlds.World.doubt.Goals as goal

pub returns-then-is_none-clause-done : goal.returns-then-is_none-clause-done
returns-then-is_none-clause-done g c =
    let none : get c.in-Open.connector.book c.args.name.now ≡ None = row_none (get c.in-Open.connector.book c.args.name.now) (search rules) in
    let N : Side g.row.J.Denot → Type 0 = λ side. Happens g.R.Registry g.J.Journal c.args.self.now (record c.args.self.now { connector = side }) (Doubts c.args.name.now) UnknownRecord in
    subst N c.in-Open.is (doubts_none g.R.Registry g.J.Journal c.args.self.now c.in-Open.connector c.args.name.now UnknownRecord c.in-Open.is none refl)

pub returns-then-is_none-clause-goes_on : goal.returns-then-is_none-clause-goes_on
returns-then-is_none-clause-goes_on g c =
    let none : get c.in-Open.connector.book c.args.name.now ≡ None = row_none (get c.in-Open.connector.book c.args.name.now) (search rules) in
    let N : Side g.row.J.Denot → Type 0 = λ side. GoesOn g.R.Registry g.J.Journal c.args.self.now (record c.args.self.now { connector = side }) (Doubts c.args.name.now) UnknownRecord in
    subst N c.in-Open.is (doubts_none_on g.R.Registry g.J.Journal c.args.self.now c.in-Open.connector c.args.name.now UnknownRecord c.in-Open.is none refl)

pub returns-clause-done : goal.returns-clause-done
returns-clause-done g c =
    let there = row_some (get c.in-Open.connector.book c.args.name.now) (search rules) in
    let done = c.doubt.ensures in
    doubts_record g.R.Registry g.J.Journal c.args.self.now c.in-Open.connector c.doubt.new.self c.args.name.now there.0 _ c.in-Open.is there.1
    done.journal done.doubted done.names refl

pub returns-clause-goes_on : goal.returns-clause-goes_on
returns-clause-goes_on g c =
    let there = row_some (get c.in-Open.connector.book c.args.name.now) (search rules) in
    let done = c.doubt.ensures in
    doubts_on g.R.Registry g.J.Journal c.args.self.now c.in-Open.connector c.doubt.new.self c.args.name.now there.0 _ c.in-Open.is there.1
    done.journal done.doubted done.names refl
