use Rattle.std.proofs.Common.{refl}
use Rattle.connection.proofs.SearchLemmas.{added}
use Rattle.connection.proofs.searches.Searches.add.Goals as goal

pub returns-then-is_added-clause-added : goal.returns-then-is_added-clause-added
returns-then-is_added-clause-added g c =
    added c.args.held c.shrink.new.self c.args.self.now _ c.is_ok-is_added.result
    (rw c.is_ok-is_added.ensures.value c.push_back.ensures.items)
    c.shrink.ensures.number c.shrink.ensures.peer c.shrink.ensures.bytes refl
