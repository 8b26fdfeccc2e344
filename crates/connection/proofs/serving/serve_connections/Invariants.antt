use Rattle.connection.specs.Turns.{ServesTurns}
use Rattle.connection.proofs.serving.serve_connections.Given as goal

-- the connections served so far
abbrev pub invariant-loop-turn : goal.invariant-loop-turn
invariant-loop-turn g l = ServesTurns g.L.Listen.waiting g.L.Reader.Read.remaining g.L.Writer.Write.contents g.R.Registry l.base l.initial.listener l.listener l.initial.provider l.provider l._turn l.outcome
