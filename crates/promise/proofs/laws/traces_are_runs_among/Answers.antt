use Rattle.promise.proofs.AmongTraces as laws
use Rattle.promise.proofs.AmongSeveral as several
use Rattle.promise.proofs.AmongTyped as typed
use Rattle.promise.proofs.laws.traces_are_runs_among.Goals as goal

pub returns-clause-typed : goal.returns-clause-typed
returns-clause-typed g c = typed.typed_traces_are_runs_among

pub returns-clause-runs : goal.returns-clause-runs
returns-clause-runs g c = laws.traces_are_runs_among g.R.Registry g.J.Journal g.I.Read.remaining g.O.Write.contents g.P.Read.remaining g.Q.Write.contents g.met.R.Registry.settled

pub returns-clause-several : goal.returns-clause-several
returns-clause-several g c = several.traces_of_several_are_runs g.R.Registry g.J.Journal g.I.Read.remaining g.O.Write.contents g.P.Read.remaining g.Q.Write.contents g.met.R.Registry.settled

pub returns-clause-without : goal.returns-clause-without
returns-clause-without g c = laws.without_others g.R.Registry g.J.Journal g.I.Read.remaining g.O.Write.contents g.P.Read.remaining g.Q.Write.contents
