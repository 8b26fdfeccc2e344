use Rattle.std.proofs.Common.{Result, Ok, Err, subst}
use Rattle.std.specs.Prelude.{OnErr}
use Rattle.commands.specs.Stored.{ServesFrom}
use Rattle.commands.proofs.StoredLemmas.{one_more}
use Rattle.commands.proofs.stored.serve_stored.Goals as goal

at_error : {T E : Type 0} {P : Type 0} (result : Result T E) → P → OnErr result P
at_error (Ok value) p = tt
at_error (Err fault) p = p

pub returns-in_err-provider-clause-refused : goal.returns-in_err-provider-clause-refused
returns-in_err-provider-clause-refused g c = at_error c.from_residual.result (record {
  left = c.loop-turn.provider;
  served = c.loop-turn._turn;
  fewer = c.loop-turn-test.true;
  outcome = c.loop-turn.outcome;
  serves = subst (λ old. ServesFrom g.L.Listen.waiting g.L.Reader.Read.remaining g.L.Writer.Write.contents g.K.Rows.Registry (g.K.RowStorage.finds c.args.storage.now) c.args.base.now c.args.listener.now c.loop-turn.listener old c.loop-turn.provider c.loop-turn._turn c.loop-turn.outcome) c.new-provider.ensures c.loop-turn.invariant;
  failed = c.in_err-provider.ensures.refused;
})

pub loop-turn-preserved : goal.loop-turn-preserved
loop-turn-preserved g c =
    one_more g.L.Listen.waiting g.L.Reader.Read.remaining g.L.Writer.Write.contents g.K.Rows.Registry (g.K.RowStorage.finds c.args.storage.now) c.args.base.now
    c.loop-turn.invariant c.in_ok-provider.ensures.mended c.serve_connections-served.ensures.served c.serve_connections-served.ensures.follows c.and-outcome.ensures
