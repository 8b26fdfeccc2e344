use Rattle.connection.proofs.HoldingLemmas.{replaced}
use Rattle.connection.proofs.waiting.Waiting.hold.Goals as goal

pub returns-clause-places : goal.returns-clause-places
returns-clause-places g c =
    replaced g.S.Read.remaining 4096 c.args.held c.args.now c.args.self.now c.release_oldest-leaver.new.self c.push-is_held.new.self
    _ c.release_oldest-leaver.result (c.is_oldest_due.ensures.0 c.if-not-is_oldest_due.false)
    c.release_oldest-leaver.ensures.leaves c.if-prove.ensures.kept
