use Rattle.promise.proofs.Reopening as laws
use Rattle.promise.proofs.laws.several_exchanges_are_steps.Goals as goal

pub returns-clause-over : goal.returns-clause-over
returns-clause-over g c = laws.flights_are_exchanges g.R.Registry g.J.Journal g.I.Read.remaining g.O.Write.contents g.P.Read.remaining g.Q.Write.contents

pub returns-clause-reopening : goal.returns-clause-reopening
returns-clause-reopening g c = laws.reopening_after_several g.R.Registry g.J.Journal g.I.Read.remaining g.O.Write.contents g.P.Read.remaining g.Q.Write.contents g.met.J.Journal.stays
