use Rattle.std.proofs.Common.{ℕ, ◌≤◌, subst, ◌≡◌, ◌∙◌, arith}
use Rattle.connection.specs.Requests.{FollowRequests}
use Rattle.connection.proofs.RequestLemmas.{turns_follow}
use Rattle.connection.specs.Turns.{all_opened}
use Rattle.connection.proofs.TurnLemmas.{no_turn, one_more, taken_still}
use Rattle.connection.proofs.serving.serve_connections.Goals as goal

pub loop-turn-init : goal.loop-turn-init
loop-turn-init g c = no_turn g.L.Listen.waiting g.L.Reader.Read.remaining g.L.Writer.Write.contents g.R.Registry c.args.base.now c.args.listener.now c.args.provider.now

pub loop-turn-preserved : goal.loop-turn-preserved
loop-turn-preserved g c = let m = one_more g.L.Listen.waiting g.L.Reader.Read.remaining g.L.Writer.Write.contents g.R.Registry c.args.base.now c.loop-turn.invariant c.serve_next-served.ensures in record {
  turns = m.turns;
  count_is = m.count_is;
  takes = taken_still _ _ _ (all_opened m.turns) m.takes c.due_faults.ensures;
  served = m.served;
  result_is = c.and-outcome.ensures ∙ m.result_is;
}

last : {count turn : ℕ} → count ≤ turn → turn ≤ count → turn ≡ count
last a b = omega arith

pub returns-clause-served : goal.returns-clause-served
returns-clause-served g c = let i = c.loop-turn.invariant in record {
  turns = i.turns;
  count_is = i.count_is ∙ last c.loop-turn-test.false c.loop-turn.auto._turn-end;
  takes = i.takes;
  served = i.served;
  result_is = i.result_is;
}

pub returns-clause-follows : goal.returns-clause-follows
returns-clause-follows g c faithful = let i = c.loop-turn.invariant in
    let follow = turns_follow g.L.Reader.Read.remaining g.L.Writer.Write.contents g.R.Registry c.args.base.now i.turns c.args.provider.now c.loop-turn.provider i.served faithful in
    subst (FollowRequests (g.R.Registry.rows c.args.provider.now) (g.R.Registry.rows c.loop-turn.provider)) (i.count_is ∙ last c.loop-turn-test.false c.loop-turn.auto._turn-end) follow
