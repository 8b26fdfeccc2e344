use Rattle.promise.proofs.AmongTraces as laws
use Rattle.promise.proofs.laws.traces_are_runs.Goals as goal

pub returns : goal.returns
returns g c = laws.traces_are_runs g.R.Registry g.J.Journal g.I.Read.remaining g.O.Write.contents g.P.Read.remaining g.Q.Write.contents g.met.R.Registry.settled
