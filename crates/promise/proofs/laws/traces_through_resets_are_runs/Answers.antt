use Rattle.promise.proofs.Resets as laws
use Rattle.promise.proofs.laws.traces_through_resets_are_runs.Goals as goal

pub returns-clause-runs : goal.returns-clause-runs
returns-clause-runs g c = laws.traces_through_resets g.R.Registry g.J.Journal g.I.Read.remaining g.O.Write.contents g.P.Read.remaining g.Q.Write.contents g.met.R.Registry.settled

pub returns-clause-resets : goal.returns-clause-resets
returns-clause-resets g c = laws.resets_are_steps g.R.Registry g.J.Journal g.I.Read.remaining g.O.Write.contents g.P.Read.remaining g.Q.Write.contents
