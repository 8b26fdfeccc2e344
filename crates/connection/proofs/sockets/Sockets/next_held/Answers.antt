use Rattle.std.proofs.Common.{Option, subst}
use Rattle.connection.specs.declared.held.Held.{Held}
use Rattle.connection.specs.declared.waiting.Waiting.{Waiting}
use Rattle.connection.specs.Leaving.{MakesRoom}
use Rattle.connection.proofs.sockets.Sockets.next_held.Goals as goal

pub returns-then-not-has_descriptors-clause-others : goal.returns-then-not-has_descriptors-clause-others
returns-then-not-has_descriptors-clause-others g c =
    let new = c.unaccepted.new.self in
    let same = c.has_descriptors.ensures in
    subst (λ (was : Waiting _). MakesRoom g.L.Stream.Read.remaining c.args.now was new.waiting c.args.self.now.found new.found)
    same.waiting
    (subst (λ (before : Option (Held _)). MakesRoom g.L.Stream.Read.remaining c.args.now c.has_descriptors.new.self.waiting
    new.waiting before new.found) same.found c.unaccepted.ensures.others)

pub returns-in-Err-clause-others : goal.returns-in-Err-clause-others
returns-in-Err-clause-others g c =
    let new = c.unaccepted-in-Err.new.self in
    let same = c.has_descriptors.ensures in
    subst (λ (was : Waiting _). MakesRoom g.L.Stream.Read.remaining c.args.now was new.waiting c.args.self.now.found new.found)
    same.waiting
    (subst (λ (before : Option (Held _)). MakesRoom g.L.Stream.Read.remaining c.args.now c.has_descriptors.new.self.waiting
    new.waiting before new.found) same.found c.unaccepted-in-Err.ensures.others)
