use Rattle.std.proofs.Common.{◌<◌, length, arith}
use Rattle.connection.proofs.HoldingLemmas.{looked_at}
use Rattle.connection.proofs.MemoryLemmas.{memory_fits}
use Rattle.connection.proofs.waiting.Waiting.is_ready_at.Goals as goal

pub overflow_add-self : goal.overflow_add-self
overflow_add-self g c =
    let fits = memory_fits c.args.self.now in
    let counted = c.args.self.now.counted in
    omega (arith, fits, counted, c.size-size.type_inv)

pub returns-clause-looks : goal.returns-clause-looks
returns-clause-looks g c =
    let items = c.args.self.now.connections.items in
    let there : c.args.place < length items = omega (arith, c.requires) in
    looked_at g.S.Read.remaining c.args.place items c.index_mut-held.result.now c.is_ready-is_ready.new.self c.is_ready-is_ready.result there c.index_mut-held.ensures.value
    c.is_ready-is_ready.ensures
