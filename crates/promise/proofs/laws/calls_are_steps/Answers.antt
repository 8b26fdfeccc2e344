use Rattle.promise.proofs.Calls as laws
use Rattle.promise.proofs.Resets as resets
use Rattle.promise.proofs.laws.calls_are_steps.Goals as goal

pub returns-clause-serving : goal.returns-clause-serving
returns-clause-serving g c = laws.serving_is_a_step g.R.Registry g.J.Journal g.I.Read.remaining g.O.Write.contents g.P.Read.remaining g.Q.Write.contents

pub returns-clause-exchanges : goal.returns-clause-exchanges
returns-clause-exchanges g c = laws.exchanges_are_steps g.R.Registry g.J.Journal g.I.Read.remaining g.O.Write.contents g.P.Read.remaining g.Q.Write.contents

pub returns-clause-offers : goal.returns-clause-offers
returns-clause-offers g c = laws.offers_are_steps g.R.Registry g.J.Journal g.I.Read.remaining g.O.Write.contents g.P.Read.remaining g.Q.Write.contents

pub returns-clause-doubts : goal.returns-clause-doubts
returns-clause-doubts g c = laws.doubts_are_steps g.R.Registry g.J.Journal g.I.Read.remaining g.O.Write.contents g.P.Read.remaining g.Q.Write.contents

pub returns-clause-reopening : goal.returns-clause-reopening
returns-clause-reopening g c = laws.reopening_is_a_step g.R.Registry g.J.Journal g.I.Read.remaining g.O.Write.contents g.P.Read.remaining g.Q.Write.contents

pub returns-clause-after_all : goal.returns-clause-after_all
returns-clause-after_all g c = resets.reopening_after_all g.R.Registry g.J.Journal g.I.Read.remaining g.O.Write.contents g.P.Read.remaining g.Q.Write.contents

pub returns-clause-closing : goal.returns-clause-closing
returns-clause-closing g c = resets.closing_is_a_step g.R.Registry g.J.Journal g.I.Read.remaining g.O.Write.contents g.P.Read.remaining g.Q.Write.contents
