use Rattle.std.proofs.Common.{◌++◌, Option, sym, subst, ap, ◌∙◌}
use Rattle.std.specs.Prelude.{option_to_list}
use Rattle.connection.specs.declared.held.Held.{Held}
use Rattle.connection.specs.Memory.{AreWithin}
use Rattle.connection.proofs.HoldingLemmas.{released}
use Rattle.connection.proofs.MemoryLemmas.{within_rest}
use Rattle.connection.proofs.waiting.Waiting.release_oldest.Goals as goal

pub invariant_of-self-2-clause-bounded : goal.invariant_of-self-2-clause-bounded
invariant_of-self-2-clause-bounded g c =
    subst (AreWithin c.args.self.now.most) (sym c.pop_front.ensures.rest)
    (within_rest c.args.self.now.most c.args.self.now.connections.items c.args.self.now.bounded)

pub returns-clause-leaves : goal.returns-clause-leaves
returns-clause-leaves g c =
    released g.S.Read.remaining c.args.now c.args.self.now _
    (record {
      oldest = c.in-Some.oldest;
      were = c.pop_front.ensures.items ∙ ap (λ (o : Option (Held _)). option_to_list o ++ c.pop_front.new.self.items) c.in-Some.is;
      due = c.is_oldest_due.ensures.0 c.if-not-is_oldest_due.false;
      moves = record { next = c.saturating_sub-self.ensures; end = c.saturating_sub-self-2.ensures };
    })
    c.last_look.result c.last_look.ensures
