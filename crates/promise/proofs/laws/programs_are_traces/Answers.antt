use Rattle.promise.proofs.Moves as laws
use Rattle.promise.proofs.laws.programs_are_traces.Goals as goal

pub returns-clause-in_turn : goal.returns-clause-in_turn
returns-clause-in_turn g c = laws.pushes_in_turn_are_moves g.R.Registry g.J.Journal g.D.Reader.Read.remaining g.D.Writer.Write.contents g.L.Reader.Read.remaining g.L.Writer.Write.contents g.T.Hear.heard g.T.Tell.told g.L.Listen.waiting

pub returns-clause-push : goal.returns-clause-push
returns-clause-push g c = laws.pushes_at_paces_are_moves g.R.Registry g.J.Journal g.D.Reader.Read.remaining g.D.Writer.Write.contents g.L.Reader.Read.remaining g.L.Writer.Write.contents g.T.Hear.heard g.T.Tell.told g.L.Listen.waiting

pub returns-clause-listener : goal.returns-clause-listener
returns-clause-listener g c = laws.listeners_are_moves g.R.Registry g.J.Journal g.D.Reader.Read.remaining g.D.Writer.Write.contents g.L.Reader.Read.remaining g.L.Writer.Write.contents g.T.Hear.heard g.T.Tell.told g.L.Listen.waiting

pub returns-clause-connect : goal.returns-clause-connect
returns-clause-connect g c = laws.pushes_connect g.R.Registry g.J.Journal g.D.Reader.Read.remaining g.D.Writer.Write.contents g.L.Reader.Read.remaining g.L.Writer.Write.contents

pub returns-clause-moves : goal.returns-clause-moves
returns-clause-moves g c = laws.moves_are_traces_among g.R.Registry g.J.Journal g.D.Reader.Read.remaining g.D.Writer.Write.contents g.L.Reader.Read.remaining g.L.Writer.Write.contents

pub returns-clause-together : goal.returns-clause-together
returns-clause-together g c = laws.push_and_serve_are_a_trace_among g.R.Registry g.J.Journal g.D.Reader.Read.remaining g.D.Writer.Write.contents g.L.Reader.Read.remaining g.L.Writer.Write.contents
