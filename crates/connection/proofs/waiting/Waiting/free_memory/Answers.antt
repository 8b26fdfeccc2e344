use Rattle.std.proofs.Common.{◌∙◌, sym}
use Rattle.connection.proofs.HoldingLemmas.{freed, none_is_some, some_of}
use Rattle.connection.proofs.waiting.Waiting.free_memory.Goals as goal

pub returns-in-Some : goal.returns-in-Some
returns-in-Some g c =
    let left = c.leave.ensures.leaves in
    freed g.S.Read.remaining _ c.args.others c.largest-place.result c.args.self.now c.leave.new.self c.in-Some.largest
    c.last_look.result c.leave.result (c.takes_too_much.ensures.0 c.if-not-takes_too_much.false) c.largest-place.ensures
    (record { there = left.there; are = left.are; next = left.next; end = left.end }) c.in-Some.is c.leave.ensures.value
    c.last_look.ensures

pub returns-in-None : goal.returns-in-None
returns-in-None g c =
    let one = some_of c.largest-place.result c.args.self.now.connections.items c.leave.ensures.leaves.there in
    absurd (none_is_some (sym c.in-None.is ∙ c.leave.ensures.value one))
