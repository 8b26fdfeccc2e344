use Rattle.std.proofs.Common.{◌<◌, length, sym, subst, arith}
use Rattle.connection.specs.Memory.{AreWithin}
use Rattle.connection.proofs.MemoryLemmas.{within_less}
use Rattle.connection.proofs.waiting.Waiting.take_out.Goals as goal

pub invariant_of-self-2-clause-bounded : goal.invariant_of-self-2-clause-bounded
invariant_of-self-2-clause-bounded g c =
    let before = c.args.self.now in
    let there : c.args.place < length before.connections.items = omega (arith, c.requires) in
    subst (AreWithin before.most) (sym c.in_ok-held.ensures.items)
    (within_less before.most c.args.place before.connections.items there before.bounded)
