use Rattle.commands.specs.Stored.{ServesFrom}
use Rattle.commands.proofs.stored.serve_stored.Given as goal

-- the connections served so far
abbrev pub invariant-loop-turn : goal.invariant-loop-turn
invariant-loop-turn g l = ServesFrom g.L.Listen.waiting g.L.Reader.Read.remaining g.L.Writer.Write.contents g.K.Rows.Registry (g.K.RowStorage.finds l.storage) l.base l.initial.listener l.listener l.initial.provider l.provider l._turn l.outcome
