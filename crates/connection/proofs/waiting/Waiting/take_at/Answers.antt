use Rattle.std.proofs.Common.{Bool, true, false, subst}
use Rattle.connection.specs.Holding.{LooksAt}
use Rattle.connection.proofs.HoldingLemmas.{took_apart}
use Rattle.connection.proofs.waiting.Waiting.take_at.Goals as goal

pub returns : goal.returns
returns g c =
    let old = c.args.self.now.connections.items in
    let seen = c.is_ready_at.new.self.connections.items in
    took_apart g.S.Read.remaining c.args.now c.args.place c.args.self.now c.is_ready_at.new.self _ c.leave.result
    (subst (λ (ready : Bool). LooksAt g.S.Read.remaining c.args.place old seen ready) c.if-not-is_ready_at.false c.is_ready_at.ensures.looks)
    (record { next = c.is_ready_at.ensures.next; end = c.is_ready_at.ensures.end }) c.leave.ensures.leaves c.leave.ensures.value
