use Rattle.std.proofs.Common.{arith}
use Rattle.connection.proofs.MemoryLemmas.{memory_fits}
use Rattle.connection.proofs.waiting.Waiting.push.Goals as goal

pub overflow_add-self : goal.overflow_add-self
overflow_add-self g c =
    let fits = memory_fits c.args.self.now in
    let counted = c.args.self.now.counted in
    let small = c.args.held.received.bytes.small in
    omega (arith, fits, counted, small, c.size-size.ensures)
