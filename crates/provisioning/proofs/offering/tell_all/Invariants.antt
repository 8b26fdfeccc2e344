use Rattle.std.proofs.Common.{◌≡◌, ◌+◌, drop, length}
use Rattle.std.specs.Vec.Iter.{into_iter_items, into_iter_len}
use Rattle.provisioning.specs.Offering.{judged_of}
use Rattle.provisioning.proofs.OfferLemmas.{IsTold}
use Rattle.provisioning.proofs.offering.tell_all.Given as goal

-- the rows of the records so far were reported; those of the others remain, with the other verdicts
abbrev pub invariant-loop-index : goal.invariant-loop-index
invariant-loop-index g l =
    IsTold (judged_of l.connector.book l.kind 1 l.records l.fn.said.items) (judged_of l.connector.book l.kind (l.index + 1) (drop l.index l.records) (into_iter_items l.verdicts)) (g.T.Hear.heard l.initial.teller) (g.T.Hear.heard l.teller) l.is_taken
    × (into_iter_len l.verdicts ≡ length (into_iter_items l.verdicts))
